-- Entries that are equal, byte for byte, from the root on.
-- Assumes nothing.
use Prim.Native.Nat.{◌+◌, ◌-◌}
use mathlib.Core.Path.{◌≡◌}
use Rattle.gateway.specs.Parting.{shared_from}
use Rattle.gateway.proofs.meeting.shared.Given as goal

abbrev pub invariant-loop-j : goal.invariant-loop-j
invariant-loop-j l = l.j + shared_from l.a l.b l.j (l.k - l.j) (l.l - l.j) ≡ shared_from l.a l.b 0 l.k l.l
