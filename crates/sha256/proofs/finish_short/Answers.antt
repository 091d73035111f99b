-- `sha256::finish_short`: what two parts put at the front of a block is both joined.
-- Assumes nothing.
use Rattle.std.proofs.Common.{ℕ, List, ◌++◌, refl, ap, ◌∙◌}
use Rattle.sha256.specs.Hash.{hash_value}
use Rattle.sha256.proofs.Hashes.{front_filled}
use Rattle.sha256.proofs.finish_short.Goals as goal

pub returns : goal.returns
returns c =
    λ x q. c.finish.ensures x q
    ∙ ap (λ (y : List ℕ). hash_value (x ++ y)) (front_filled c.args.a.now c.args.b.now c.fill.new.t _ _ refl c.fill.ensures)
