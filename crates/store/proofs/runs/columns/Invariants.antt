-- `store::runs::columns` meets its contract: s has the slots of the columns after column j.
-- Assumes nothing.
use Prim.Native.Nat.{◌≤◌}
use mathlib.Core.Path.{◌≡◌}
use Rattle.store.specs.Passes.{slots_of, run_of}
use Rattle.store.proofs.runs.columns.Given as goal

abbrev pub invariant-loop-j : goal.invariant-loop-j
invariant-loop-j l = (l.i ≤ l.j) × (l.s ≡ slots_of (run_of l.image.bytes.now l.j l.m))
