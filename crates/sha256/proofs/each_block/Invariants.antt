-- `sha256::each_block` takes block after block: what is left of b gives, from the state, the hash value of the whole.
-- Assumes nothing.
use Rattle.std.proofs.Common.{◌≡◌, ◌/◌, length}
use Rattle.sha256.specs.Hash.{hashed}
use Rattle.sha256.proofs.each_block.Given as goal

abbrev pub invariant-loop-block : goal.invariant-loop-block
invariant-loop-block l =
    let rest = l.block-iterator.rest.now in
    (l.block-iterator.size ≡ 64) × (hashed l.s rest (length rest / 64) ≡ hashed l.initial.s l.b (length l.b / 64))
