-- 14, the second proof, 16 and 15.
-- Assumes nothing.
use Rattle.std.specs.Prelude.{Err}
use mathlib.Core.Path.{sym, ap, ◌∙◌}
use Rattle.std.proofs.lemmas.Result.{err_from_is_err_and}
use Rattle.skiplist.specs.Commands.{repeats_at}
use Rattle.filer.specs.Filing.{timed}
use Rattle.filer.proofs.Answers.{comes_again, second-refused, second_passed, both_shown}
use Rattle.filer.proofs.later_verdict.Goals as goal

pub returns-then-repeated : goal.returns-then-repeated
returns-then-repeated c =
    let a = c.args in
    comes_again a.m a.p a.time a.tag (timed a.left.time a.left.readings.now) (timed a.right.time a.right.readings.now)
    a.left.proof.now a.right.proof.now
    (c.repeated.ensures ∙ ap (repeats_at a.p a.tag) c.shown.ensures)
    c.if-repeated.true

pub neighbours_verdict-requires : goal.neighbours_verdict-requires
neighbours_verdict-requires c =
    let a = c.args in
    both_shown a.m a.p a.left.readings.now a.right.readings.now a.left.proof.now a.right.proof.now c.requires.1 c.requires.2
    (sym c.second_verdict.ensures ∙ c.in_ok-second_verdict.was)

pub returns-in_err-second_verdict : goal.returns-in_err-second_verdict
returns-in_err-second_verdict c =
    let a = c.args in
    let p = err_from_is_err_and c.from_residual.result c.from_residual.ensures.1 in
    p.1 ∙ ap Err p.2
    ∙ second-refused a.m a.p a.time a.tag (timed a.left.time a.left.readings.now) (timed a.right.time a.right.readings.now)
    a.left.proof.now a.right.proof.now
    (c.repeated.ensures ∙ ap (repeats_at a.p a.tag) c.shown.ensures)
    c.if-repeated.false c.second_verdict.ensures c.in_err-second_verdict.was

pub returns : goal.returns
returns c =
    let a = c.args in
    second_passed a.m a.p a.time a.tag (timed a.left.time a.left.readings.now) (timed a.right.time a.right.readings.now)
    a.left.proof.now a.right.proof.now
    (c.repeated.ensures ∙ ap (repeats_at a.p a.tag) c.shown.ensures)
    c.if-repeated.false c.second_verdict.ensures c.in_ok-second_verdict.was c.neighbours_verdict.ensures
