-- `octets::number_at` meets its contract: after i turns n is the number of the first i bytes.
-- Assumes nothing.
use native.Mathlib.Omega.{arith}
use Rattle.octets.proofs.NumberLaws.{room}
use Rattle.octets.proofs.number_at.Goals as goal

pub overflow_mul-n : goal.overflow_mul-n
overflow_mul-n g c = omega (arith, room c.loop-i.i c.loop-i.n (omega arith) c.loop-i.invariant.1)

pub overflow_add-n-in-loop-i : goal.overflow_add-n-in-loop-i
overflow_add-n-in-loop-i g c = omega (arith, room c.loop-i.i c.loop-i.n (omega arith) c.loop-i.invariant.1)
