-- `sha256::load` reads the block's sixteen words. After t turns the first t words are the schedule's.
-- Assumes nothing.
use Rattle.std.proofs.Common.{◌≡◌, ◌≤◌, length, take}
use Rattle.sha256.specs.Hash.{schedule}
use Rattle.sha256.proofs.load.Given as goal

abbrev pub invariant-loop-t : goal.invariant-loop-t
invariant-loop-t l = (l.t ≤ 16) × (length l.w ≡ 16) × (take l.t l.w ≡ schedule l.b l.t)
