-- `store::plan::above` meets its contract: what is counted and what is left to count stay together.
-- Assumes nothing.
use Prim.Native.Nat.{◌-◌, ◌≤◌}
use mathlib.Core.Path.{◌≡◌}
use lib.ListN.{length}
use Rattle.skiplist.specs.Length.{down_columns}
use Rattle.archive.specs.Reading.{count_of}
use Rattle.store.specs.Passes.{run_of}
use Rattle.store.proofs.PlanLaws.{climbing}
use Rattle.store.proofs.plan.above.Given as goal

abbrev pub invariant-loop-j : goal.invariant-loop-j
invariant-loop-j l =
    (l.m.count ≤ l.j - l.from)
    × (climbing l.m (run_of l.image.bytes.now l.j (count_of l.image.bytes.now))
    ≡ length (down_columns l.level (run_of l.image.bytes.now l.from (count_of l.image.bytes.now))))
