-- `store::path::put_entries` meets its contract: `Held` at each turn.
-- Assumes nothing.
use Rattle.store.proofs.TurnLaws.{Held}
use Rattle.store.proofs.path.put_entries.Given as goal

abbrev pub invariant-loop-a : goal.invariant-loop-a
invariant-loop-a l = Held l.image.bytes.now l.s l.at l.k l.from l.p l.initial.buffer l.buffer l.a l.l l.r

abbrev pub decreases-loop-a : goal.decreases-loop-a
decreases-loop-a l = l.a
