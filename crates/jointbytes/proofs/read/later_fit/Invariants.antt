-- `jointbytes::read::later_fit` meets its contract: what is left decides.
-- Assumes nothing.
use Prim.Native.Nat.{◌-◌}
use Rattle.jointbytes.proofs.StandLaws.{Reached}
use Rattle.jointbytes.proofs.read.later_fit.Given as goal

abbrev pub invariant-loop-i : goal.invariant-loop-i
invariant-loop-i l = Reached l.s l.m (l.i - 1) l.q l.k
