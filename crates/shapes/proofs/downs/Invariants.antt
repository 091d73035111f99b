-- From block i on the numbers are written, and the counters are those of the columns passed.
-- Assumes nothing.
use Rattle.std.specs.Prelude.{◌≡◌}
use Rattle.octets.specs.Runs.{patch}
use Rattle.shapes.specs.Counters.{downs_above, Counts, downs_of, columns_from}
use Rattle.shapes.proofs.downs.Given as goal

abbrev pub invariant-loop-i : goal.invariant-loop-i
invariant-loop-i l =
    (l.out ≡ patch l.initial.out l.i (downs_of (columns_from l.image.bytes.now l.i)))
    × Counts (downs_above (columns_from l.image.bytes.now l.i)) l.m
