-- `jointbytes::read::holder` meets its contract: the holder among the pieces so far.
-- Assumes nothing.
use mathlib.Core.Path.{◌≡◌}
use Rattle.jointbytes.specs.Reading.{piece_of}
use Rattle.jointbytes.specs.Working.{holder_of}
use Rattle.jointbytes.proofs.read.holder.Given as goal

abbrev pub invariant-loop-b : goal.invariant-loop-b
invariant-loop-b l = (l.q ≡ piece_of l.s l._b) × (l.h ≡ holder_of l.s l._b l.j)
