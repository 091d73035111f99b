-- Entries from the last upwards.
-- Assumes nothing.
use native.Mathlib.Omega.{arith}
use Rattle.gateway.specs.Climbing.{takes_downs, takes_rights}
use Rattle.gateway.proofs.Climbs.{fold_none, fold_up, fold_done}
use Rattle.gateway.proofs.climb.fold.Goals as goal

pub loop-i-init : goal.loop-i-init
loop-i-init c =
    let a = c.args in
    (omega arith, fold_none a.s.now (takes_downs a.which) (takes_rights a.which) a.t a.to _ (omega arith))

pub loop-i-preserved : goal.loop-i-preserved
loop-i-preserved c =
    let a = c.args in (
      omega arith,
      fold_up a.s.now (takes_downs a.which) (takes_rights a.which) a.t c.loop-i.i a.to (omega arith) (omega arith) c.loop-i.invariant.1
          c.push-a.ensures,
    )

pub returns : goal.returns
returns c =
    let a = c.args in
    fold_done a.s.now (takes_downs a.which) (takes_rights a.which) a.t c.loop-i.i a.from a.to (omega arith) c.loop-i.invariant.1
