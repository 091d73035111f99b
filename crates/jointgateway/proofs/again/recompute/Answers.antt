-- `jointgateway::again::recompute` meets its contract.
-- Assumes nothing.
use native.Mathlib.Omega.{arith}
use mathlib.Core.Path.{◌∙◌}
use Rattle.std.proofs.Math.Nat.{min-le_right}
use Rattle.jointgateway.proofs.AgainLaws.{c_first, f_first}
use Rattle.jointgateway.proofs.again.recompute.Goals as goal

pub returns-then-c-at : goal.returns-then-c-at
returns-then-c-at c =
    let a = c.args in
    c.settle.ensures ∙ c_first a.w.now a.m a.f a.c c.entry_count-k.ensures c.min-at.ensures (omega (arith, c.min-at.ensures, min-le_right c.args.f c.entry_count-k.result))
    c.stop_leaf.ensures c.if-c-at.true c.fold-u.ensures c.fold.ensures

pub returns : goal.returns
returns c =
    let a = c.args in
    c.settle-2.ensures ∙ f_first a.w.now a.m a.f a.c c.entry_count-k.ensures c.min-at.ensures (omega (arith, c.min-at.ensures, min-le_right c.args.f c.entry_count-k.result))
    c.stop_leaf-2.ensures (omega (arith, c.if-c-at.false)) (omega (arith, c.requires.1, c.entry_count-k.ensures)) c.fold-x.ensures c.fold-2.ensures
