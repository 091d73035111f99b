-- Ch and Maj in the code's forms are FIPS's, and xor is associative. All of them go binary digit by digit, so what holds of
-- bits holds of words, by one induction over the digits.
-- Assumes nothing.
use Rattle.std.proofs.Common.{◌≡◌, ℕ, zero, suc, ◌-◌, ◌*◌, ◌/◌, ◌%◌, ◌^◌, ◌<◌, sym, refl, ap, ◌∙◌, pow-suc, arith}
use lib.Bits.{bit_and, bit_xor, and_shr, and_mod, xor_shr, xor_mod}
use Rattle.sha256.specs.Words.{ch, maj}

-- an operation on three numbers that goes digit by digit
record Digitwise (f : ℕ → ℕ → ℕ → ℕ) : Type 0 where
  none : f 0 0 0 ≡ 0
  half : (x y z : ℕ) → f x y z / 2 ≡ f (x / 2) (y / 2) (z / 2)
  last : (x y z : ℕ) → f x y z % 2 ≡ f (x % 2) (y % 2) (z % 2)

bit : (P : ℕ → Type 0) → P 0 → P 1 → (x : ℕ) → P (x % 2)
bit P p q x = go (x % 2) (omega arith)
  where
    go : (n : ℕ) → n < 2 → P n
    go zero h = p
    go (suc zero) h = q
    go (suc (suc n)) h = absurd (omega arith)

-- two such operations are the same where they are on bits
module _ (f g : ℕ → ℕ → ℕ → ℕ) (df : Digitwise f) (dg : Digitwise g)
    (same : (x y z : ℕ) → f (x % 2) (y % 2) (z % 2) ≡ g (x % 2) (y % 2) (z % 2)) where
  below : (k x y z : ℕ) → x < 2 ^ k → y < 2 ^ k → z < 2 ^ k → f x y z ≡ g x y z
  below zero x y z p q r =
      let ex : x ≡ 0 = omega arith in
      let ey : y ≡ 0 = omega arith in
      let ez : z ≡ 0 = omega arith in
      rw (ex, ey, ez) (df.none ∙ sym dg.none)
  below (suc k) x y z p q r =
      let e : 2 ^ suc k ≡ 2 ^ k * 2 = pow-suc 2 k in
      let h = below k (x / 2) (y / 2) (z / 2) (omega arith) (omega arith) (omega arith) in
      let l = same x y z in
      omega (arith, df.half x y z, dg.half x y z, df.last x y z, dg.last x y z)

-- each bit is 0 or 1
bits : (P : ℕ → ℕ → ℕ → Type 0) → P 0 0 0 → P 0 0 1 → P 0 1 0 → P 0 1 1 → P 1 0 0 → P 1 0 1 → P 1 1 0 → P 1 1 1
    → (x y z : ℕ) → P (x % 2) (y % 2) (z % 2)
bits P a b c d e f g h x y z =
    bit (λ (i : ℕ). P i (y % 2) (z % 2))
    (bit (λ (j : ℕ). P 0 j (z % 2)) (bit (P 0 0) a b z) (bit (P 0 1) c d z) y)
    (bit (λ (j : ℕ). P 1 j (z % 2)) (bit (P 1 0) e f z) (bit (P 1 1) g h z) y) x

-- all digits but the last, and the last one, of xor and of and
xor_half : (a b : ℕ) → bit_xor a b / 2 ≡ bit_xor (a / 2) (b / 2)
xor_half a b = xor_shr a b 1

xor_last : (a b : ℕ) → bit_xor a b % 2 ≡ bit_xor (a % 2) (b % 2)
xor_last a b = xor_mod a b 1

and_half : (a b : ℕ) → bit_and a b / 2 ≡ bit_and (a / 2) (b / 2)
and_half a b = and_shr a b 1

and_last : (a b : ℕ) → bit_and a b % 2 ≡ bit_and (a % 2) (b % 2)
and_last a b = and_mod a b 1

ruleset halves = (xor_half, and_half)

ruleset lasts = (xor_last, and_last)

pub xor_assoc : (k x y z : ℕ) → x < 2 ^ k → y < 2 ^ k → z < 2 ^ k → bit_xor (bit_xor x y) z ≡ bit_xor x (bit_xor y z)
xor_assoc =
    below (λ x y z. bit_xor (bit_xor x y) z) (λ x y z. bit_xor x (bit_xor y z))
    (record { none = refl; half = λ x y z. simp halves; last = λ x y z. simp lasts })
    (record { none = refl; half = λ x y z. simp halves; last = λ x y z. simp lasts })
    (bits (λ x y z. bit_xor (bit_xor x y) z ≡ bit_xor x (bit_xor y z)) refl refl refl refl refl refl refl refl)

-- Maj, for a pair of rounds to share x ^ y
pub majority_same : (k x y z : ℕ) → x < 2 ^ k → y < 2 ^ k → z < 2 ^ k
    → bit_xor y (bit_and (bit_xor x y) (bit_xor y z)) ≡ maj x y z
majority_same =
    below (λ x y z. bit_xor y (bit_and (bit_xor x y) (bit_xor y z))) maj
    (record { none = refl; half = λ x y z. simp halves; last = λ x y z. simp lasts })
    (record { none = refl; half = λ x y z. simp halves; last = λ x y z. simp lasts })
    (bits (λ x y z. bit_xor y (bit_and (bit_xor x y) (bit_xor y z)) ≡ maj x y z) refl refl refl refl refl refl refl refl)

pub majority_words : (x y z : ℕ) → x < 2 ^ 32 → y < 2 ^ 32 → z < 2 ^ 32
    → bit_xor y (bit_and (bit_xor x y) (bit_xor y z)) ≡ maj x y z
majority_words x y z p q r = majority_same 32 x y z p q r

-- Ch without the complement
choose_bits : (k x y z : ℕ) → x < 2 ^ k → y < 2 ^ k → z < 2 ^ k
    → bit_xor z (bit_and x (bit_xor y z)) ≡ bit_xor (bit_and x y) (bit_xor z (bit_and x z))
choose_bits =
    below (λ x y z. bit_xor z (bit_and x (bit_xor y z))) (λ x y z. bit_xor (bit_and x y) (bit_xor z (bit_and x z)))
    (record { none = refl; half = λ x y z. simp halves; last = λ x y z. simp lasts })
    (record { none = refl; half = λ x y z. simp halves; last = λ x y z. simp lasts })
    (bits (λ x y z. bit_xor z (bit_and x (bit_xor y z)) ≡ bit_xor (bit_and x y) (bit_xor z (bit_and x z)))
    refl refl refl refl refl refl refl refl)

-- the digits of z where x has none are z without those that x has too
outside : (k x z : ℕ) → x < 2 ^ k → z < 2 ^ k → bit_and ((2 ^ k - 1) - x) z ≡ bit_xor z (bit_and x z)
outside zero x z p q =
    let ex : x ≡ 0 = omega arith in
    let ez : z ≡ 0 = omega arith in
    rw (ex, ez)
outside (suc k) x z p q =
    let e : 2 ^ suc k ≡ 2 ^ k * 2 = pow-suc 2 k in
    let u = (2 ^ suc k - 1) - x in
    let hu : u / 2 ≡ (2 ^ k - 1) - x / 2 = omega arith in
    let lu : u % 2 ≡ 1 - x % 2 = omega arith in
    let h : bit_and (u / 2) (z / 2) ≡ bit_xor (z / 2) (bit_and (x / 2) (z / 2)) =
    rw hu (outside k (x / 2) (z / 2) (omega arith) (omega arith)) in
    let l : bit_and (u % 2) (z % 2) ≡ bit_xor (z % 2) (bit_and (x % 2) (z % 2)) =
    rw lu (bits (λ i j l. bit_and (1 - i) j ≡ bit_xor j (bit_and i j)) refl refl refl refl refl refl refl refl x z 0) in
    let a : bit_xor z (bit_and x z) / 2 ≡ bit_xor (z / 2) (bit_and (x / 2) (z / 2)) = simp halves in
    let b : bit_xor z (bit_and x z) % 2 ≡ bit_xor (z % 2) (bit_and (x % 2) (z % 2)) = simp lasts in
    omega (arith, and_half u z, and_last u z)

pub choose_same : (x y z : ℕ) → x < 2 ^ 32 → y < 2 ^ 32 → z < 2 ^ 32 → bit_xor z (bit_and x (bit_xor y z)) ≡ ch x y z
choose_same x y z p q r = choose_bits 32 x y z p q r ∙ ap (bit_xor (bit_and x y)) (sym (outside 32 x z p r))
