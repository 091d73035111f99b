-- `sha256::to_bytes` writes the words one after the other. After i turns the first i words are written.
-- Assumes nothing.
use Rattle.std.proofs.Common.{◌≡◌, ◌*◌, ◌≤◌, length, take}
use Rattle.sha256.specs.Hash.{joined}
use Rattle.sha256.proofs.to_bytes.Given as goal

abbrev pub invariant-loop-i : goal.invariant-loop-i
invariant-loop-i l = (l.i ≤ 8) × (length l.out ≡ 32) × (take (l.i * 4) l.out ≡ joined (take l.i l.s))
