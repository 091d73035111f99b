-- What a `match` on a number has found: in an arm, that it is the arm's; in the last, that it is none of those before.
-- Assumes nothing.
use Rattle.std.proofs.Common.{◌≡◌, ℕ, zero, suc, ◌≤◌, get_or, sym, ap, zero-le, arith}
use Rattle.sha256.specs.Constants.{constants}

-- the constant of the arm is that of the number
pub picked : (i t : ℕ) → t ≡ i → get_or constants i 0 ≡ get_or constants t 0
picked i t e = ap (λ (j : ℕ). get_or constants j 0) (sym e)

-- t is none of 0 to n - 1
abbrev pub NoneOf : ℕ → ℕ → Type 0
NoneOf zero t = Unit {0}
NoneOf (suc n) t = NoneOf n t × (t ≡ n → ⊥)

pub past : (n t : ℕ) → NoneOf n t → n ≤ t
past zero t h = zero-le
past (suc n) t h = omega (arith, past n t h.0, h.1)
