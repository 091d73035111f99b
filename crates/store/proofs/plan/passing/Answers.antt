-- `store::plan::passing` meets its contract: the columns after column j are passed.
-- Assumes nothing.
use native.Mathlib.Omega.{arith}
use Rattle.store.proofs.PlanLaws.{onto_next, marked_more}
use borrow.Author.Rules.{rules}
use Rattle.store.proofs.plan.passing.Goals as goal

pub loop-j-preserved : goal.loop-j-preserved
loop-j-preserved c = (
  omega arith,
  omega (arith, marked_more c.loop-j.t c.height.result c.passed-t.result c.passed-t.ensures.0),
  omega arith,
  onto_next c.args.image.bytes.now c.args.m c.args.to c.args.from c.loop-j.j c.height.result c.loop-j.t c.passed-t.result
      (omega arith) (search rules) c.height.ensures.0 c.loop-j.invariant.3 c.passed-t.ensures.0,
)
