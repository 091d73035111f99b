-- `jointgateway::proofs` meets its contract: what is left decides.
-- Assumes nothing.
use Rattle.jointgateway.proofs.LoopLaws.{Going}
use Rattle.jointgateway.proofs.proofs.Given as goal

abbrev pub invariant-loop-i : goal.invariant-loop-i
invariant-loop-i l = Going l.s l.m l.ps l.i l.q l.t l.work l.tags
