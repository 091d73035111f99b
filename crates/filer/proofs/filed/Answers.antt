-- 11, then 12, 2, 3 and 4, then the proofs.
-- Assumes nothing.
use Rattle.std.specs.Prelude.{Err}
use mathlib.Core.Path.{sym, ap, ◌∙◌}
use Rattle.std.proofs.lemmas.Result.{err_from_is_err_and}
use Rattle.refusals.specs.Order.{verdict_of}
use Rattle.gateway.specs.Gateway.{opening_rules}
use Rattle.gateway.proofs.Answers.{opening_count}
use Rattle.filer.specs.Filing.{proposed}
use Rattle.filer.specs.Working.{answer_with}
use Rattle.filer.proofs.Answers.{too_long, opening-refused, opening-worked}
use Rattle.filer.proofs.filed.Goals as goal

pub returns-then-long : goal.returns-then-long
returns-then-long c =
    let a = c.args in
    let q = proposed a.f a.readings.now a.left.now a.right.now in
    too_long a.m q a.first.now a.second.now c.long.ensures c.if-long.true

pub returns-in_err-opened : goal.returns-in_err-opened
returns-in_err-opened c =
    let a = c.args in
    let q = proposed a.f a.readings.now a.left.now a.right.now in
    let p = err_from_is_err_and c.from_residual.result c.from_residual.ensures.1 in
    ap (answer_with a.m) (p.1 ∙ ap Err p.2)
    ∙ opening-refused a.m q a.first.now a.second.now
    c.long.ensures c.if-long.false
    (c.opened.ensures ∙ ap (λ x. verdict_of (opening_rules a.m x)) c.command.ensures) c.in_err-opened.was

pub work-requires : goal.work-requires
work-requires c =
    let a = c.args in (
      opening_count a.m c.command.result (sym c.opened.ensures ∙ c.in_ok-opened.was),
      sym c.long.ensures ∙ c.if-long.false,
    )

pub returns : goal.returns
returns c =
    let a = c.args in
    let q = proposed a.f a.readings.now a.left.now a.right.now in
    c.work.ensures ∙ opening-worked a.m q a.first.now a.second.now
    c.long.ensures c.if-long.false
    (c.opened.ensures ∙ ap (λ x. verdict_of (opening_rules a.m x)) c.command.ensures) c.in_ok-opened.was
