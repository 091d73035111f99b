-- `sha256::shared_block`: two parts that fill a block are the block.
-- Assumes nothing.
use Rattle.std.proofs.Common.{refl}
use Rattle.sha256.proofs.Hashes.{block_filled}
use Rattle.sha256.proofs.shared_block.Goals as goal

pub returns : goal.returns
returns c =
    block_filled c.args.a.now c.args.b.now c.fill.new.t _ c.args.s c.each_block.result c.requires refl
    c.fill.ensures c.each_block.ensures
