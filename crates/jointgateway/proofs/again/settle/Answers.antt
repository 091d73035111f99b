-- `jointgateway::again::settle` meets its contract.
-- Assumes nothing.
use Rattle.jointgateway.proofs.AgainLaws.{settled_same, settled-fine, settled_not}
use Rattle.jointgateway.proofs.again.settle.Goals as goal

pub returns-then-same_side : goal.returns-then-same_side
returns-then-same_side c =
    settled_same c.args.w.now c.args.m c.args.c c.requires.1 (c.same_side.ensures c.if-same_side.true)

pub returns-then-eq : goal.returns-then-eq
returns-then-eq c =
    let a = c.args in
    settled-fine a.w.now a.m a.c a.x a.u c.fold-root.ensures c.eq.ensures c.if-eq.true

pub returns-else-eq : goal.returns-else-eq
returns-else-eq c =
    let a = c.args in
    settled_not a.w.now a.m a.c a.x a.u c.fold-root.ensures c.eq.ensures c.if-eq.false
