-- `octets::put_number` meets its contract: with what is left of n in the bytes that are left, all of it is written.
-- Assumes nothing.
use Rattle.std.proofs.Common.{◌≡◌}
use Rattle.octets.specs.Numbers.{be}
use Rattle.octets.specs.Runs.{patch}
use Rattle.octets.proofs.put_number.Given as goal

abbrev pub invariant-loop-i : goal.invariant-loop-i
invariant-loop-i g l = patch l.d l.at (be l.i l.rest) ≡ patch l.initial.d l.at (be g.row.N l.n)
