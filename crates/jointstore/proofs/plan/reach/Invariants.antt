-- `jointstore::plan::reach` meets its contract: no column so far is taller.
-- Assumes nothing.
use Rattle.skiplist.specs.Row.{AtMost}
use Rattle.store.specs.Passes.{run_of}
use Rattle.jointstore.proofs.plan.reach.Given as goal

abbrev pub invariant-loop-e : goal.invariant-loop-e
invariant-loop-e l = AtMost l.level (run_of l.image.bytes.now l.q l.e)
