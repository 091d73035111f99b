-- `octets::copy` meets its contract: after i turns the first i bytes of s are written.
-- Assumes nothing.
use Rattle.std.proofs.Common.{◌≡◌}
use Rattle.octets.specs.Runs.{patch, part}
use Rattle.octets.proofs.copy.Given as goal

abbrev pub invariant-loop-i : goal.invariant-loop-i
invariant-loop-i l = l.d ≡ patch l.initial.d l.at (part l.s 0 l.i)
