-- ASK 4: "Insert after p, p at least 1, is to be refused if the new tag equals the tag at p": a command that repeats, in range, the tag
-- at its place in the row.
-- Assumes nothing.
use Rattle.std.specs.Prelude.{◌≤◌, ◌<◌, ◌≡◌, List, length}
use Rattle.skiplist.specs.Limits.{most_blocks, most_height}
use Rattle.skiplist.specs.Blocks.{Block, tag_at}
use Rattle.commands.specs.declared.Operation.TheVariants.{Insert}
use Rattle.commands.specs.declared.Command.{Command}

pub record Again (bs : List Block) (k : Command) : Type 0 where
  pub insert : k.operation ≡ Insert
  pub place : (1 ≤ k.position) × (k.position ≤ length bs)
  pub tag : k.tag ≡ tag_at k.position bs
  -- neither 3 nor 4, which come before
  pub low : k.height ≤ most_height
  pub space : length bs < most_blocks
