-- The command's own prediction where the proof passed and the tag is not the one at the stop.
-- Assumes nothing.
use Rattle.std.specs.Prelude.{Ok, Err}
use native.Mathlib.Omega.{arith}
use mathlib.Core.Path.{sym, ap, ◌∙◌}
use mathlib.Core.Bool.{cond}
use mathlib.Core.List.{[]}
use Rattle.refusals.specs.declared.Refusal.TheVariants.{Repeated}
use Rattle.commands.specs.declared.Operation.TheVariants.{Insert}
use Rattle.std.proofs.lemmas.Result.{err_from_is_err_and}
use Rattle.proofbytes.proofs.FormLaws.{form_sized}
use Rattle.gateway.specs.declared.Answer.{Answer}
use Rattle.gateway.specs.Gateway.{later_rules, inserted_of}
use Rattle.gateway.specs.Working.{answer_with}
use Rattle.gateway.proofs.Screens.{fine-passed}
use Rattle.gateway.proofs.Answers.{one_refused, one_fine, one_later, one_done}
use Rattle.gateway.proofs.insert.Goals as goal

pub returns-in_err-proof_verdict : goal.returns-in_err-proof_verdict
returns-in_err-proof_verdict c =
    let a = c.args in
    let p = err_from_is_err_and c.from_residual.result c.from_residual.ensures.1 in
    ap (answer_with a.m) (p.1 ∙ ap Err p.2)
    ∙ one_refused a.m a.p a.s.now c.proof_verdict.ensures
    (later_rules Insert a.m a.p a.tag a.s.now []) (inserted_of a.height a.tag a.s.now)
    c.in_err-proof_verdict.was

pub stands_at-requires : goal.stands_at-requires
stands_at-requires c =
    let a = c.args in
    form_sized a.s.now (fine-passed a.s.now a.p a.m
    (one_fine a.m a.p a.s.now c.proof_verdict.ensures c.in_ok-proof_verdict.was)).formed

pub returns-then-stands_at : goal.returns-then-stands_at
returns-then-stands_at c =
    let a = c.args in
    one_later a.m a.p a.s.now c.proof_verdict.ensures
    (later_rules Insert a.m a.p a.tag a.s.now []) (inserted_of a.height a.tag a.s.now)
    c.in_ok-proof_verdict.was
    (ap (λ x. cond x (Err Repeated) (Ok tt))
    (sym c.stands_at.ensures ∙ c.if-stands_at.true))

pub inserted-requires : goal.inserted-requires
inserted-requires c =
    let a = c.args in
    let g = fine-passed a.s.now a.p a.m
    (one_fine a.m a.p a.s.now c.proof_verdict.ensures c.in_ok-proof_verdict.was) in
    (g.formed, omega (arith, g.counted, c.requires))

pub returns : goal.returns
returns c =
    let a = c.args in
    one_done a.m a.p a.s.now c.proof_verdict.ensures
    (later_rules Insert a.m a.p a.tag a.s.now []) (inserted_of a.height a.tag a.s.now)
    c.in_ok-proof_verdict.was
    (ap (λ x. cond x (Err Repeated) (Ok tt))
    (sym c.stands_at.ensures ∙ c.if-stands_at.false))
    (ap (λ (x : Answer). x.tag) c.inserted.ensures) (ap (λ (x : Answer). x.metadata) c.inserted.ensures)
