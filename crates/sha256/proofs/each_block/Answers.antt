-- `sha256::each_block` takes block after block: what is left of b gives, from the state, the hash value of the whole.
-- Assumes nothing.
use Rattle.std.proofs.Common.{◌∙◌, arith}
use Rattle.sha256.proofs.Hashes.{hashed_chunk, hashed_none}
use Rattle.sha256.proofs.each_block.Goals as goal

pub loop-block-preserved : goal.loop-block-preserved
loop-block-preserved c =
    let i = c.loop-block.invariant in
    let n = c.in-Some.ensures.steps in (
      n.0 ∙ i.0,
      hashed_chunk c.loop-block.s c.compress-next.result c.in-Some.block.now c.next.new.self.rest.now _
          (n.1.1 ∙ i.0) n.1.0 c.compress-next.ensures ∙ i.1,
    )

pub returns : goal.returns
returns c =
    let i = c.loop-block.invariant in
    hashed_none c.loop-block.s c.loop-block.block-iterator.rest.now (omega (arith, c.in-None.ensures.steps.1.0, i.0)) ∙ i.1
