-- The first i numbers are whole, and the counters are those of the columns passed.
-- Assumes nothing.
use Rattle.std.specs.Prelude.{◌≡◌, ◌++◌}
use Rattle.octets.specs.Runs.{patch}
use Rattle.skiplist.specs.Blocks.{row}
use Rattle.archive.specs.Reading.{blocks_from}
use Rattle.shapes.specs.Counters.{rights_from, Counts, downs_of, entries_up_to, columns_from}
use Rattle.shapes.proofs.rights.Given as goal

abbrev pub invariant-loop-i : goal.invariant-loop-i
invariant-loop-i l =
    (l.out ≡ patch l.initial.out 0 (entries_up_to l.image.bytes.now l.i ++ downs_of (columns_from l.image.bytes.now l.i)))
    × Counts (rights_from (row (blocks_from l.image.bytes.now 0 l.i))) l.m
