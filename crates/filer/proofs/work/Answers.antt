-- The first proof, what comes after it, and the answer.
-- Assumes nothing.
use Rattle.std.specs.Prelude.{Err}
use native.Mathlib.Omega.{arith}
use mathlib.Core.Path.{ap, ◌∙◌}
use Rattle.std.proofs.lemmas.Result.{err_from_is_err_and}
use Rattle.proofbytes.proofs.FormLaws.{form_sized}
use Rattle.gateway.proofs.Screens.{fine-passed}
use Rattle.gateway.proofs.Answers.{one_fine}
use Rattle.filer.specs.Filing.{proposed}
use Rattle.filer.specs.Working.{answer_with}
use Rattle.filer.proofs.Answers.{tag_is, new_short, first-refused, later_refused, all_passed}
use Rattle.filer.proofs.work.Goals as goal

pub returns-in_err-proof_verdict : goal.returns-in_err-proof_verdict
returns-in_err-proof_verdict c =
    let a = c.args in
    let q = proposed a.f a.readings.now a.left.now a.right.now in
    let p = err_from_is_err_and c.from_residual.result c.from_residual.ensures.1 in
    ap (answer_with a.m) (p.1 ∙ ap Err p.2)
    ∙ first-refused a.m q a.first.now a.second.now c.proof_verdict.ensures c.in_err-proof_verdict.was

pub later_verdict-requires : goal.later_verdict-requires
later_verdict-requires c =
    let a = c.args in
    let g = fine-passed a.first.now a.f.position a.m
    (one_fine a.m a.f.position a.first.now c.proof_verdict.ensures c.in_ok-proof_verdict.was) in (
      c.requires.0,
      form_sized a.first.now g.formed,
      (new_short a.f.position a.m.count a.readings.now a.left.now a.right.now c.requires.1).1,
    )

pub returns-in_err-later_verdict : goal.returns-in_err-later_verdict
returns-in_err-later_verdict c =
    let a = c.args in
    let q = proposed a.f a.readings.now a.left.now a.right.now in
    let p = err_from_is_err_and c.from_residual-in_err-later_verdict.result c.from_residual-in_err-later_verdict.ensures.1 in
    ap (answer_with a.m) (p.1 ∙ ap Err p.2)
    ∙ later_refused a.m q a.first.now a.second.now
    c.proof_verdict.ensures c.in_ok-proof_verdict.was
    (tag_is a.f.time a.readings.now c.tag.result
    (new_short a.f.position a.m.count a.readings.now a.left.now a.right.now c.requires.1).0 c.tag.ensures)
    c.later_verdict.ensures c.in_err-later_verdict.was

pub inserted-requires : goal.inserted-requires
inserted-requires c =
    let a = c.args in
    let g = fine-passed a.first.now a.f.position a.m
    (one_fine a.m a.f.position a.first.now c.proof_verdict.ensures c.in_ok-proof_verdict.was) in
    (g.formed, omega (arith, g.counted, c.requires.0))

pub returns : goal.returns
returns c =
    let a = c.args in
    let q = proposed a.f a.readings.now a.left.now a.right.now in
    c.inserted.ensures ∙ all_passed a.m q a.first.now a.second.now
    c.proof_verdict.ensures c.in_ok-proof_verdict.was
    (tag_is a.f.time a.readings.now c.tag.result
    (new_short a.f.position a.m.count a.readings.now a.left.now a.right.now c.requires.1).0 c.tag.ensures)
    c.later_verdict.ensures c.in_ok-later_verdict.was
