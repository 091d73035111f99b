-- `jointstore::plan::reach` meets its contract: no column so far is taller.
-- Assumes nothing.
use Rattle.jointstore.proofs.PartLaws.{at_most_none, at_most_next}
use native.Mathlib.Omega.{arith}
use Rattle.jointstore.proofs.plan.reach.Goals as goal

pub loop-e-init : goal.loop-e-init
loop-e-init c = at_most_none _ _ _

pub loop-e-preserved : goal.loop-e-preserved
loop-e-preserved c =
    at_most_next c.args.image.bytes.now c.args.level c.args.q c.loop-e.e c.height.result (omega arith) c.loop-e.invariant
    c.height.ensures.0 c.if-level-height.false
