-- The walk keeps `Walked`, so it answers what the rules and the sums are.
-- Assumes nothing.
use Rattle.proofbytes.proofs.Walks.{Walked}
use Rattle.proofbytes.proofs.read.walk.Given as goal

abbrev pub invariant-loop-i : goal.invariant-loop-i
invariant-loop-i l = Walked l.s l.k l.i l.most l.position l.rank
