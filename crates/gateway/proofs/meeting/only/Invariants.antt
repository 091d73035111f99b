-- Entries of one kind only.
-- Assumes nothing.
use Prim.Native.Nat.{◌-◌}
use mathlib.Core.Path.{◌≡◌}
use Rattle.proofbytes.specs.Reading.{entries_from}
use Rattle.gateway.specs.Parting.{only_of}
use Rattle.gateway.proofs.meeting.only.Given as goal

abbrev pub invariant-loop-i : goal.invariant-loop-i
invariant-loop-i l =
    only_of l.downs (entries_from l.s l.i (l.to - l.i)) ≡ only_of l.downs (entries_from l.s l.from (l.to - l.from))
