-- `sha256::later_rounds` is rounds 16 to 63. Before the turn i the window stands before round i * 16.
-- Assumes nothing.
use Rattle.std.proofs.Common.{ℕ, ◌*◌, ◌≤◌, List}
use Rattle.sha256.specs.Window.{Before}
use Rattle.sha256.proofs.later_rounds.Given as goal

abbrev pub invariant-loop-i : goal.invariant-loop-i
invariant-loop-i l =
    (1 ≤ l.i) × (l.i ≤ 4) × ((b v : List ℕ) → Before b v 16 l.initial.x.s l.initial.x.w → Before b v (l.i * 16) l.x.s l.x.w)
