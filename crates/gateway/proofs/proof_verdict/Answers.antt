-- The finding of one proof, as its verdict.
-- Assumes nothing.
use mathlib.Core.Path.{ap, ◌∙◌}
use Rattle.gateway.specs.Working.{blamed}
use Rattle.gateway.proofs.Answers.{examined-finding}
use Rattle.gateway.proofs.proof_verdict.Goals as goal

pub returns : goal.returns
returns c =
    let a = c.args in
    c.blame.ensures ∙ ap (blamed a.w) (c.and.ensures ∙ examined-finding a.s.now a.p a.m 0 c.examine.ensures)
