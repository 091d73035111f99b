-- `sha256::hash_joined`: the whole blocks of the first part, then what is left of it and the second.
-- Assumes nothing.
use Rattle.std.proofs.Common.{◌*◌, ◌/◌, length, take, refl, ap, ◌∙◌, arith}
use Rattle.sha256.specs.Constants.{initial}
use Rattle.sha256.specs.Hash.{hash_value}
use Rattle.sha256.proofs.Hashes.{after_front, front_parts}
use Rattle.sha256.proofs.hash_joined.Goals as goal

pub returns : goal.returns
unfolding initial
returns c =
    let a = c.args.a.now in
    let n = length a / 64 * 64 in
    c.finish_both.ensures (take n a) (after_front a c.absorb-s.result n refl c.absorb-s.ensures)
    ∙ ap hash_value (front_parts a c.args.b.now n (omega arith))
