-- `jointstore::path::put_later` meets its contract: `Written` at each turn.
-- Assumes nothing.
use Rattle.std.specs.Prelude.{◌≡◌, ◌-◌, true, drop, get_or}
use Rattle.jointstore.specs.Answers.{all_shallow}
use Rattle.jointstore.specs.Passes.{later_at}
use Rattle.jointstore.proofs.PositionLaws.{Ahead}
use Rattle.jointstore.proofs.PutLaws.{Written}
use Rattle.jointstore.proofs.path.put_later.Given as goal

abbrev pub invariant-loop-i : goal.invariant-loop-i
invariant-loop-i l =
    (all_shallow l.image.bytes.now (drop l.i l.ps) ≡ true) × Ahead l.image.bytes.now (get_or l.ps (l.i - 1) 0) (drop l.i l.ps)
    × Written l.image.bytes.now (later_at l.image.bytes.now l.ps) l.initial.buffer l.at l.buffer (get_or l.ps (l.i - 1) 0) l.end (drop l.i l.ps)
