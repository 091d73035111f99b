-- The merge from below keeps `Merged`.
-- Assumes nothing.
use Prim.Native.Nat.{◌+◌}
use Rattle.gateway.proofs.Merges.{Merged}
use Rattle.gateway.proofs.meeting.merge.Given as goal

abbrev pub invariant-loop-i : goal.invariant-loop-i
invariant-loop-i l = Merged l.a l.f l.k l.b l.g l.l l.initial.x l.i l.j l.x

abbrev pub decreases-loop-i : goal.decreases-loop-i
decreases-loop-i l = l.i + l.j
