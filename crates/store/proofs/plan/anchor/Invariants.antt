-- `store::plan::anchor` meets its contract: what is nearest to column i is nearest to column m.
-- Assumes nothing.
use mathlib.Core.Path.{◌≡◌}
use Rattle.store.specs.Passes.{nearest}
use Rattle.store.proofs.plan.anchor.Given as goal

abbrev pub invariant-loop-i : goal.invariant-loop-i
invariant-loop-i l = nearest l.image.bytes.now l.h l.i ≡ nearest l.image.bytes.now l.h l.m
