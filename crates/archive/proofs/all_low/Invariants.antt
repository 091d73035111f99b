-- The heights passed are within the limit: what is left to look at decides.
-- Assumes nothing.
use Rattle.std.specs.Prelude.{◌≡◌}
use Rattle.archive.specs.Reading.{low}
use Rattle.archive.proofs.all_low.Given as goal

abbrev pub invariant-loop-i : goal.invariant-loop-i
invariant-loop-i l = low l.b l.i ≡ low l.b l.k
