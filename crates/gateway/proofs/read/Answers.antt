-- Read: the tag, and the metadata as it was.
-- Assumes nothing.
use Rattle.std.specs.Prelude.{Err}
use mathlib.Core.Path.{refl, ap, ◌∙◌}
use mathlib.Core.List.{[]}
use Rattle.std.proofs.lemmas.Result.{err_from_is_err_and}
use Rattle.proofbytes.proofs.FormLaws.{form_sized}
use Rattle.gateway.specs.Working.{answer_with}
use Rattle.gateway.proofs.Screens.{fine-passed}
use Rattle.gateway.proofs.Answers.{one_refused, one_fine, one_done}
use Rattle.gateway.proofs.read.Goals as goal

pub returns-in_err-proof_verdict : goal.returns-in_err-proof_verdict
returns-in_err-proof_verdict c =
    let a = c.args in
    let p = err_from_is_err_and c.from_residual.result c.from_residual.ensures.1 in
    ap (answer_with a.m) (p.1 ∙ ap Err p.2)
    ∙ one_refused a.m a.p a.s.now c.proof_verdict.ensures [] a.m c.in_err-proof_verdict.was

pub shown-requires : goal.shown-requires
shown-requires c =
    let a = c.args in
    form_sized a.s.now (fine-passed a.s.now a.p a.m
    (one_fine a.m a.p a.s.now c.proof_verdict.ensures c.in_ok-proof_verdict.was)).formed

pub returns : goal.returns
returns c =
    let a = c.args in
    one_done a.m a.p a.s.now c.proof_verdict.ensures [] a.m c.in_ok-proof_verdict.was refl c.shown.ensures refl
