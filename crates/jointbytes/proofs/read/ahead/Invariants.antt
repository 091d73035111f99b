-- `jointbytes::read::ahead` meets its contract: what is counted and what is left to count stay together.
-- Assumes nothing.
use lib.ListN.{length}
use mathlib.Core.Path.{◌≡◌}
use Prim.Native.Nat.{◌+◌, ◌-◌, ◌*◌, ◌≤◌}
use Rattle.jointbytes.specs.Reading.{ahead}
use Rattle.jointbytes.proofs.read.ahead.Given as goal

abbrev pub invariant-loop-k : goal.invariant-loop-k
invariant-loop-k l =
    (l.from + 38 * l.k ≤ length l.s)
    × (l.k + ahead (length l.s - l.k) l.s (l.from + 38 * l.k) ≡ ahead (length l.s) l.s l.from)

abbrev pub decreases-loop-k : goal.decreases-loop-k
decreases-loop-k l = length l.s - l.k
