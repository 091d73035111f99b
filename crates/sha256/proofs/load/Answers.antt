-- `sha256::load` reads the block's sixteen words. After t turns the first t words are the schedule's.
-- Assumes nothing.
use Rattle.std.proofs.Common.{refl, ◌∙◌, zero-le, arith, length-set}
use Rattle.sha256.specs.Hash.{schedule}
use Rattle.sha256.proofs.Schedules.{load_more, loaded}
use Rattle.sha256.proofs.load.Goals as goal

pub loop-t-init : goal.loop-t-init
unfolding schedule
loop-t-init c = (zero-le, refl, refl)

pub loop-t-preserved : goal.loop-t-preserved
loop-t-preserved c =
    let b = c.args.b.now in (
      omega arith,
      length-set c.loop-t.w c.loop-t.t _ ∙ c.loop-t.invariant.1,
      load_more b c.loop-t.w c.loop-t.t c.number_at.result c.loop-t-test.true c.loop-t.invariant.1
          c.loop-t.invariant.2 c.number_at.ensures.0,
    )

pub returns : goal.returns
returns c =
    let b = c.args.b.now in
    loaded b c.loop-t.w c.loop-t.t c.loop-t.invariant.1 c.loop-t.invariant.0 c.loop-t-test.false c.loop-t.invariant.2
