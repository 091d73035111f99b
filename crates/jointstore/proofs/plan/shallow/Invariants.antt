-- `jointstore::plan::shallow` meets its contract: the positions from here on decide.
-- Assumes nothing.
use Rattle.std.specs.Prelude.{◌≡◌, true, drop}
use Rattle.archive.specs.Reading.{count_of}
use Rattle.jointbytes.specs.Positions.{within}
use Rattle.jointstore.specs.Answers.{all_shallow}
use Rattle.jointstore.proofs.plan.shallow.Given as goal

abbrev pub invariant-loop-p : goal.invariant-loop-p
invariant-loop-p l =
    (within (count_of l.image.bytes.now) (drop l.p-index l.ps) ≡ true) × (all_shallow l.image.bytes.now (drop l.p-index l.ps) ≡ all_shallow l.image.bytes.now l.ps)
