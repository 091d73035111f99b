-- Entries from the last upwards.
-- Assumes nothing.
use mathlib.Core.Path.{◌≡◌}
use Prim.Native.Nat.{◌-◌, ◌≤◌}
use Rattle.proofbytes.specs.Reading.{entries_from}
use Rattle.gateway.specs.Climbing.{climbed, taken, takes_downs, takes_rights}
use Rattle.gateway.proofs.climb.fold.Given as goal

abbrev pub invariant-loop-i : goal.invariant-loop-i
invariant-loop-i l =
    (l.from ≤ l.i) × (l.a ≡ climbed (taken (takes_downs l.which) (takes_rights l.which) (entries_from l.s l.i (l.to - l.i))) l.initial.a)
