-- `store::plan::passing` meets its contract: the columns after column j are passed.
-- Assumes nothing.
use Prim.Native.Nat.{◌+◌, ◌-◌, ◌≤◌}
use mathlib.Core.Path.{◌≡◌}
use Rattle.store.specs.Passes.{run_of, onto}
use Rattle.store.proofs.plan.passing.Given as goal

abbrev pub invariant-loop-j : goal.invariant-loop-j
invariant-loop-j l =
    (l.to ≤ l.j) × (l.initial.t.count ≤ l.t.count) × (l.t.count ≤ l.initial.t.count + (l.from - l.j))
    × (l.t ≡ onto l.initial.t (run_of l.image.bytes.now l.j l.from))
