-- How many entries Insert keeps.
-- Assumes nothing.
use Prim.Native.Nat.{◌+◌, ◌-◌}
use mathlib.Core.Path.{◌≡◌}
use Rattle.proofbytes.specs.Reading.{entries_from}
use Rattle.gateway.specs.Climbing.{kept_count}
use Rattle.gateway.proofs.predict.kept.Given as goal

abbrev pub invariant-loop-j : goal.invariant-loop-j
invariant-loop-j l = l.j + kept_count l.h (entries_from l.s l.j (l.k - l.j)) ≡ kept_count l.h (entries_from l.s 0 l.k)
