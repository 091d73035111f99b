-- The place of a time: what stands before it is not later and what stands after it is; in times that never fall it is the only such place,
-- and with the time put in there they never fall again.
-- Assumes nothing.
use Prim.Native.Nat.{ℕ, zero, suc, ◌≤◌, ◌<◌}
use native.Mathlib.Omega.{arith}
use mathlib.Core.Path.{◌≡◌, refl, sym, ap, ◌∙◌}
use mathlib.Core.Bool.{Bool, true, false, cond}
use mathlib.Core.List.{List, [], ◌∷◌}
use lib.Dec.{ltb}
use lib.ListN.{length, get_or}
use borrow.Author.Tests.{lt-ltb, le-ltb, ltb-true, ltb-false}
use Rattle.times.specs.Times.{RiseFrom, put_after, place_for}

-- ONE STEP: the first is later, or not
pub later_first : (u : ℕ) (ts : List ℕ) (t : ℕ) → t < u → place_for (u ∷ ts) t ≡ 0
later_first u ts t h = rw (lt-ltb t u h)

pub not_later : (u : ℕ) (ts : List ℕ) (t : ℕ) → u ≤ t → place_for (u ∷ ts) t ≡ suc (place_for ts t)
not_later u ts t h = rw (le-ltb t u h)

-- WHAT STANDS THERE, in any times
pub record Fits (p : ℕ) (ts : List ℕ) (t : ℕ) : Type 0 where
  pub within : p ≤ length ts
  pub left : (i : ℕ) → p ≡ suc i → get_or ts i 0 ≤ t
  pub right : p < length ts → t < get_or ts p 0

pub place-fits : (ts : List ℕ) (t : ℕ) → Fits (place_for ts t) ts t
place-fits [] t = record {
  within = omega arith;
  left = λ i e. absurd (omega (arith, e));
  right = λ h. absurd (omega (arith, h));
}
place-fits (u ∷ ts) t = go (ltb t u) refl (place-fits ts t)
  where
    go : (b : Bool) → ltb t u ≡ b → Fits (place_for ts t) ts t → Fits (cond b 0 (suc (place_for ts t))) (u ∷ ts) t
    go true e f = record {
      within = omega arith;
      left = λ i q. absurd (omega (arith, q));
      right = λ h. ltb-true t u e;
    }
    go false e f = record {
      within = omega (arith, f.within);
      left = λ i q. before (place_for ts t) i (omega (arith, q)) f.left;
      right = λ h. f.right (omega (arith, h));
    }
      where
        before : (p i : ℕ) → p ≡ i → ((j : ℕ) → p ≡ suc j → get_or ts j 0 ≤ t) → get_or (u ∷ ts) i 0 ≤ t
        before p zero q l = ltb-false t u e
        before p (suc i) q l = l i q

-- THE ONLY PLACE, in times that never fall
rise_low : (b : ℕ) (ts : List ℕ) (i : ℕ) → RiseFrom b ts → i < length ts → b ≤ get_or ts i 0
rise_low b [] i r h = absurd (omega (arith, h))
rise_low b (u ∷ ts) zero r h = r.0
rise_low b (u ∷ ts) (suc i) r h = omega (arith, r.0, rise_low u ts i r.1 (omega (arith, h)))

pub place_only : (b : ℕ) (ts : List ℕ) (p t : ℕ) → RiseFrom b ts → Fits p ts t → p ≡ place_for ts t
place_only b [] p t r f = omega (arith, f.within)
place_only b (u ∷ ts) zero t r f = sym (later_first u ts t (f.right (omega arith)))
place_only b (u ∷ ts) (suc p) t r f =
    ap suc (place_only u ts p t r.1 below) ∙ sym (not_later u ts t (first p refl (f.left p refl)))
  where
    first : (q : ℕ) → q ≡ p → get_or (u ∷ ts) q 0 ≤ t → u ≤ t
    first zero e l = l
    first (suc q) e l = omega (arith, l, rise_low u ts q r.1 (omega (arith, e, f.within)))

    below : Fits p ts t
    below = record {
      within = omega (arith, f.within);
      left = λ i e. rw e at (f.left p refl);
      right = λ h. f.right (omega (arith, h));
    }

-- PUT IN THERE
pub put_rises : (b : ℕ) (ts : List ℕ) (t : ℕ) → RiseFrom b ts → b ≤ t → RiseFrom b (put_after (place_for ts t) t ts)
put_rises b [] t r h = (h, tt)
put_rises b (u ∷ ts) t r h = go (ltb t u) refl (put_rises u ts t r.1)
  where
    go : (x : Bool) → ltb t u ≡ x → (u ≤ t → RiseFrom u (put_after (place_for ts t) t ts))
        → RiseFrom b (put_after (cond x 0 (suc (place_for ts t))) t (u ∷ ts))
    go true e rest = let l = ltb-true t u e in (h, (omega (arith, l), r.1))
    go false e rest = (r.0, rest (ltb-false t u e))

-- THE FIRST LATER ONE
pub place_first : (ts : List ℕ) (t p : ℕ) → p ≤ length ts → ((k : ℕ) → k < p → get_or ts k 0 ≤ t) → (p < length ts → t < get_or ts p 0)
    → p ≡ place_for ts t
place_first [] t p h before next = omega (arith, h)
place_first (u ∷ ts) t zero h before next = sym (later_first u ts t (next (omega arith)))
place_first (u ∷ ts) t (suc p) h before next =
    ap suc (place_first ts t p (omega (arith, h)) (λ k b. before (suc k) (omega (arith, b))) (λ b. next (omega (arith, b))))
    ∙ sym (not_later u ts t (before 0 (omega arith)))
