-- Laws of `same` and `all_zero`: read a byte at a time from the front, and what their answers say.
-- Assumes nothing.
use Prim.Native.Nat.{ℕ, suc}
use mathlib.Core.Path.{◌≡◌, refl, sym, ap, ap₂, ◌∙◌}
use mathlib.Core.List.{List, [], ◌∷◌}
use mathlib.Core.Bool.{Bool, true, false, ◌&&◌}
use native.Mathlib.Omega.{arith}
use lib.Dec.{eqb}
use lib.ListN.{length, replicate, length-replicate, get_or-replicate}
use borrow.Author.Tests.{eqb-true, eq-eqb}
use Rattle.std.specs.Prelude.{IsTrue, EachIndex, slice_index}
use Rattle.octets.specs.Runs.{same, all_zero}

-- what is the same is equal
pub same-true : (a b : List ℕ) → same a b ≡ true → a ≡ b
same-true [] [] e = refl
same-true [] (y ∷ b) e = let z : ◌≡◌ {A = ℕ} 0 1 = cc in absurd (omega arith)
same-true (x ∷ a) [] e = let z : ◌≡◌ {A = ℕ} 0 1 = cc in absurd (omega arith)
same-true (x ∷ a) (y ∷ b) e = go (eqb x y) refl e (same-true a b)
  where
    go : (t : Bool) → eqb x y ≡ t → t && same a b ≡ true → (same a b ≡ true → a ≡ b) → (x ∷ a) ≡ (y ∷ b)
    go true p q f = ap₂ (λ (u : ℕ) (v : List ℕ). u ∷ v) (eqb-true x y p) (f q)
    go false p q f = let z : ◌≡◌ {A = ℕ} 0 1 = cc in absurd (omega arith)

-- what is equal is the same
pub same_refl : (a : List ℕ) → same a a ≡ true
same_refl [] = refl
same_refl (x ∷ a) = simp (eq-eqb x x refl) (same_refl a)

-- what is all zero is as many zeros
pub zero-true : (a : List ℕ) → all_zero a ≡ true → a ≡ replicate (length a) 0
zero-true a e = same-true a (replicate (length a) 0) e

pub zero_zeros : (n : ℕ) → all_zero (replicate n 0) ≡ true
zero_zeros n = rw (length-replicate {A = ℕ} n 0) (same_refl (replicate n 0))

each_zero : (a : List ℕ) → EachIndex a (λ k. slice_index a k ≡ 0) → all_zero a ≡ true
each_zero [] h = refl
each_zero (x ∷ a) h = rw (eq-eqb x 0 (h 0 (omega arith))) (each_zero a (λ k l. h (suc k) (omega arith)))

zero_index : (a : List ℕ) → all_zero a ≡ true → EachIndex a (λ k. slice_index a k ≡ 0)
zero_index a e k h =
    ap (λ x. slice_index x k) (zero-true a e) ∙ get_or-replicate (length a) k 0 0 h

-- a test that tells whether each element is 0
pub zero_each : (a : List ℕ) (t : Bool) → (IsTrue t → EachIndex a (λ k. slice_index a k ≡ 0))
    → (EachIndex a (λ k. slice_index a k ≡ 0) → IsTrue t) → t ≡ all_zero a
zero_each a true f g = sym (each_zero a (f refl))
zero_each a false f g = go (all_zero a) refl
  where
    go : (u : Bool) → all_zero a ≡ u → false ≡ u
    go true e = g (zero_index a e)
    go false e = refl
