-- The code's nested rotations are those of FIPS 180-4, 4.1.2, side by side: a rotation goes through xor, and a rotation of
-- a rotation is one rotation. A rotation by n moves the n low digits in front of the others (`rotr_parts`).
-- Assumes nothing.
use Rattle.std.proofs.Common.{◌≡◌, ℕ, ◌+◌, ◌-◌, ◌*◌, ◌/◌, ◌%◌, ◌^◌, ◌<◌, ◌≤◌, sym, ap, ◌∙◌, subst, ap₂, mod-lt, mul_assoc, add-mul, add_comm, arith, pow_pos, pow-add, shr-shr, shr_lt}
use native.Mathlib.Nat.{mul-mod_left}
use lib.Arith.{digits_lt}
use lib.Pow.{shl-shr, mod-pow-add, split, high, low}
use lib.Bits.{bit_xor, or_shifted_r, xor_lt, xor_shr, xor_mod, xor_block}
use Rattle.sha256.specs.Words.{rotr}
use Rattle.sha256.proofs.Digits.{xor_assoc}

-- n low digits, k high ones
module _ (n k : ℕ) (e : n + k ≡ 32) where
  lifted : (x : ℕ) → (x * 2 ^ k) % 2 ^ 32 ≡ (x % 2 ^ n) * 2 ^ k
  lifted x =
      ap (λ (w : ℕ). (x * 2 ^ k) % 2 ^ w) (sym e)
      ∙ mod-pow-add (x * 2 ^ k) n k
      ∙ rw (shl-shr x k, mul-mod_left x (2 ^ k)) (omega arith)

  front : (x : ℕ) → x < 2 ^ 32 → x / 2 ^ n < 2 ^ k
  front x h = shr_lt k n (subst (λ (w : ℕ). x < 2 ^ w) (sym e ∙ omega arith) h)

  rotr_parts : (x : ℕ) → x < 2 ^ 32 → rotr n x ≡ (x % 2 ^ n) * 2 ^ k + x / 2 ^ n
  rotr_parts x h =
      let f : 32 - n ≡ k = omega arith in
      rw (f, lifted x) (or_shifted_r (x % 2 ^ n) k (x / 2 ^ n) (front x h))

  rotr-lt : (x : ℕ) → x < 2 ^ 32 → rotr n x < 2 ^ 32
  rotr-lt x h =
      rw (rotr_parts x h)
      (subst (λ (w : ℕ). (x % 2 ^ n) * 2 ^ k + x / 2 ^ n < w) (sym (pow-add 2 n k) ∙ ap (λ (w : ℕ). 2 ^ w) e)
      (digits_lt (mod-lt x (pow_pos n)) (front x h)))

  rotr_xor : (x y : ℕ) → x < 2 ^ 32 → y < 2 ^ 32 → rotr n (bit_xor x y) ≡ bit_xor (rotr n x) (rotr n y)
  rotr_xor x y p q =
      rw (rotr_parts (bit_xor x y) (xor_lt 32 x y p q), rotr_parts x p, rotr_parts y q, xor_mod x y n, xor_shr x y n)
      (sym (xor_block k (x % 2 ^ n) (y % 2 ^ n) (x / 2 ^ n) (y / 2 ^ n) (front x p) (front y q)))

-- b digits moved, then a more
rotr-rotr : (a b c x : ℕ) → a + (b + c) ≡ 32 → x < 2 ^ 32 → rotr a (rotr b x) ≡ rotr (a + b) x
rotr-rotr a b c x e h =
    let q = x / 2 ^ b in
    let r = x % 2 ^ b in
    let moved : rotr b x ≡ (r * 2 ^ c + q / 2 ^ a) * 2 ^ a + q % 2 ^ a =
    rotr_parts b (c + a) (omega arith) x h
    ∙ rw (pow-add 2 c a, ← (mul_assoc r (2 ^ c) (2 ^ a)), add-mul (r * 2 ^ c) (q / 2 ^ a) (2 ^ a))
    (omega (arith, split q a)) in
    let l : rotr b x < 2 ^ 32 = rotr-lt b (a + c) (omega arith) x h in
    let left : rotr a (rotr b x) ≡ (q % 2 ^ a) * 2 ^ (b + c) + (r * 2 ^ c + q / 2 ^ a) =
    rotr_parts a (b + c) e (rotr b x) l
    ∙ ap₂ (λ (u v : ℕ). u * 2 ^ (b + c) + v)
    (ap (λ (y : ℕ). y % 2 ^ a) moved ∙ low (r * 2 ^ c + q / 2 ^ a) a (mod-lt q (pow_pos a)))
    (ap (λ (y : ℕ). y / 2 ^ a) moved ∙ high (r * 2 ^ c + q / 2 ^ a) a (mod-lt q (pow_pos a))) in
    let right : rotr (a + b) x ≡ (q % 2 ^ a * 2 ^ b + r) * 2 ^ c + q / 2 ^ a =
    rotr_parts (a + b) c (omega arith) x h
    ∙ ap₂ (λ (u v : ℕ). u * 2 ^ c + v) (mod-pow-add x a b)
    (ap (λ (k : ℕ). x / 2 ^ k) (add_comm a b) ∙ sym (shr-shr x b a)) in
    left
    ∙ rw (pow-add 2 b c, ← (mul_assoc (q % 2 ^ a) (2 ^ b) (2 ^ c)))
    (omega (arith, add-mul (q % 2 ^ a * 2 ^ b) r (2 ^ c)))
    ∙ sym right

module _ (x : ℕ) (h : x < 2 ^ 32) where
  turned_lt : (n : ℕ) → n ≤ 32 → rotr n x < 2 ^ 32
  turned_lt n l = rotr-lt n (32 - n) (omega arith) x h

  turned_twice : (a b : ℕ) → a + b ≤ 32 → rotr a (rotr b x) ≡ rotr (a + b) x
  turned_twice a b l = rotr-rotr a b (32 - (a + b)) x (omega arith) h

  -- a word and a rotation of it, rotated
  pub two_nested : (a b : ℕ) → a + b ≤ 32 → rotr a (bit_xor x (rotr b x)) ≡ bit_xor (rotr a x) (rotr (a + b) x)
  two_nested a b l =
      rotr_xor a (32 - a) (omega arith) x (rotr b x) h (turned_lt b (omega arith))
      ∙ ap (bit_xor (rotr a x)) (turned_twice a b l)

  -- the same once more
  pub three_nested : (a b c : ℕ) → a + (b + c) ≤ 32
      → rotr a (bit_xor x (rotr b (bit_xor x (rotr c x))))
      ≡ bit_xor (bit_xor (rotr a x) (rotr (a + b) x)) (rotr (a + (b + c)) x)
  three_nested a b c l =
      let u = rotr b x in
      let v = rotr (b + c) x in
      let hu = turned_lt b (omega arith) in
      let hv = turned_lt (b + c) (omega arith) in
      ap (λ (y : ℕ). rotr a (bit_xor x y)) (two_nested b c (omega arith))
      ∙ rotr_xor a (32 - a) (omega arith) x (bit_xor u v) h (xor_lt 32 u v hu hv)
      ∙ ap (bit_xor (rotr a x)) (rotr_xor a (32 - a) (omega arith) u v hu hv
      ∙ ap₂ bit_xor (turned_twice a b (omega arith)) (turned_twice a (b + c) l))
      ∙ sym (xor_assoc 32 (rotr a x) (rotr (a + b) x) (rotr (a + (b + c)) x)
      (turned_lt a (omega arith)) (turned_lt (a + b) (omega arith)) (turned_lt (a + (b + c)) l))
