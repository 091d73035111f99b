-- `store::slots::sealed` meets its contract: x is sealed by the open slots below slot l.
-- Assumes nothing.
use Prim.Native.Nat.{◌-◌}
use mathlib.Core.Path.{◌≡◌}
use Rattle.store.specs.Passes.{sealed_of}
use Rattle.store.proofs.slots.sealed.Given as goal

abbrev pub invariant-loop-l : goal.invariant-loop-l
invariant-loop-l l = l.x ≡ sealed_of l.s (l.l - 1) l.initial.x
