-- `octets::number_at` meets its contract: after i turns n is the number of the first i bytes.
-- Assumes nothing.
use Rattle.std.proofs.Common.{◌≡◌, ◌^◌, ◌<◌}
use Rattle.octets.specs.Numbers.{number_at}
use Rattle.octets.proofs.number_at.Given as goal

abbrev pub invariant-loop-i : goal.invariant-loop-i
invariant-loop-i g l = (l.n ≡ number_at l.i l.s l.at) × (l.n < 256 ^ l.i)
