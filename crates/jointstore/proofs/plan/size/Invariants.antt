-- `jointstore::plan::size` meets its contract: what is summed and the pieces that are left stay together.
-- Assumes nothing.
use Rattle.std.specs.Prelude.{◌≡◌, ◌+◌, ◌-◌, ◌*◌, ◌≤◌, length, drop, get_or}
use Rattle.jointstore.specs.Answers.{joint_at}
use Rattle.jointstore.specs.Passes.{pieces_at}
use Rattle.jointstore.proofs.PositionLaws.{Ahead}
use Rattle.jointstore.proofs.plan.size.Given as goal

abbrev pub invariant-loop-i : goal.invariant-loop-i
invariant-loop-i l =
    (l.t ≤ 1000000 * l.i) × Ahead l.image.bytes.now (get_or l.ps (l.i - 1) 0) (drop l.i l.ps)
    × (l.t + length (pieces_at l.image.bytes.now (get_or l.ps (l.i - 1) 0) (drop l.i l.ps)) ≡ length (joint_at l.image.bytes.now l.ps))
