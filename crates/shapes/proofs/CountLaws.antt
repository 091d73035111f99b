-- How the numbers of right entries and of down entries change with one column more, so that sixteen counters follow
-- them: `rights_from h`
-- counts the right columns of height h or more, `downs_above h` the down columns of a height above h.
-- Assumes nothing.
use Prim.Native.Nat.{ℕ, suc, ◌≤◌, ◌<◌}
use native.Mathlib.Omega.{arith}
use mathlib.Core.Path.{◌≡◌, refl, sym, ◌∙◌}
use mathlib.Core.Logic.{◌⊎◌, inl, inr}
use mathlib.Core.Bool.{Bool, true, false, cond}
use mathlib.Core.List.{List, [], ◌∷◌, ◌++◌}
use lib.Dec.{leb, ltb}
use lib.ListN.{length}
use borrow.Author.Tests.{lt-ltb, le-ltb, le-leb, lt-leb}
use Rattle.skiplist.specs.Row.{Column}
use Rattle.skiplist.specs.Length.{tallest, right_columns, down_columns}
use Rattle.skiplist.proofs.Cases.{order}
use Rattle.shapes.specs.Counters.{at_least}

-- the greater of two numbers
abbrev Greater : ℕ → ℕ → ℕ → Type 0
Greater a b m = (a ≤ m) × (b ≤ m) × ((m ≡ a) ⊎ (m ≡ b))

greater : (a b : ℕ) → Greater a b (cond (ltb a b) b a)
greater a b = go (order a b)
  where
    go : (a < b) ⊎ (b ≤ a) → Greater a b (cond (ltb a b) b a)
    go (inl h) = rw (lt-ltb a b h) (omega arith, omega arith, inr refl)
    go (inr h) = rw (le-ltb a b h) (omega arith, omega arith, inl refl)

-- the greatest height with one column more behind
tallest_more : (A : List Column) (d : Column) → Greater (tallest A) d.height (tallest (A ++ (d ∷ [])))
tallest_more [] d = rw (le-ltb d.height 0 (omega arith)) (omega arith, omega arith, inr refl)
tallest_more (x ∷ A) d =
    go (greater x.height (tallest A)) (greater x.height (tallest (A ++ (d ∷ [])))) (tallest_more A d)
  where
    go : {m n : ℕ} → Greater x.height (tallest A) m → Greater x.height (tallest (A ++ (d ∷ []))) n
        → Greater (tallest A) d.height (tallest (A ++ (d ∷ []))) → Greater m d.height n
    go (a, b, inl e) (c, f, inl g) (p, q, r) = (omega arith, omega arith, inl (g ∙ sym e))
    go (a, b, inl e) (c, f, inr g) (p, q, inl r) = (omega arith, omega arith, inl (omega arith))
    go (a, b, inl e) (c, f, inr g) (p, q, inr r) = (omega arith, omega arith, inr (g ∙ r))
    go (a, b, inr e) (c, f, inl g) (p, q, inl r) = (omega arith, omega arith, inl (omega arith))
    go (a, b, inr e) (c, f, inl g) (p, q, inr r) = (omega arith, omega arith, inl (omega arith))
    go (a, b, inr e) (c, f, inr g) (p, q, inl r) = (omega arith, omega arith, inl (g ∙ r ∙ sym e))
    go (a, b, inr e) (c, f, inr g) (p, q, inr r) = (omega arith, omega arith, inr (g ∙ r))

pub rights_more : (A : List Column) (d : Column) (h : ℕ)
    → at_least h (right_columns (A ++ (d ∷ [])))
    ≡ cond (leb h d.height) (suc (at_least d.height (right_columns A))) (at_least h (right_columns A))
rights_more [] d h = rw (le-ltb d.height 0 (omega arith))
rights_more (x ∷ A) d h =
    go (order x.height (tallest A)) (order x.height (tallest (A ++ (d ∷ [])))) (tallest_more A d) (rights_more A d h)
  where
    new : List Column
    new = right_columns (A ++ (d ∷ []))

    old : List Column
    old = right_columns A

    -- with x in front of both, of neither, of the old ones alone
    kept : d.height ≤ x.height → at_least h new ≡ cond (leb h d.height) (suc (at_least d.height old)) (at_least h old)
        → at_least h (x ∷ new) ≡ cond (leb h d.height) (suc (at_least d.height (x ∷ old))) (at_least h (x ∷ old))
    kept k e = rw (le-leb d.height x.height k) (by (order d.height h) e)
      where
        by : (d.height < h) ⊎ (h ≤ d.height)
            → at_least h new ≡ cond (leb h d.height) (suc (at_least d.height old)) (at_least h old)
            → at_least h (x ∷ new) ≡ cond (leb h d.height) (suc (suc (at_least d.height old))) (at_least h (x ∷ old))
        by (inl l) e = let f = rw (lt-leb h d.height l) at e in rw (f, lt-leb h d.height l)
        by (inr l) e = let f = rw (le-leb h d.height l) at e in rw
            (f, le-leb h d.height l, le-leb h x.height (omega arith))

    lost : x.height < d.height → at_least h new ≡ cond (leb h d.height) (suc (at_least d.height old)) (at_least h old)
        → at_least h new ≡ cond (leb h d.height) (suc (at_least d.height (x ∷ old))) (at_least h (x ∷ old))
    lost k e = rw (lt-leb d.height x.height k) (by (order d.height h) e)
      where
        by : (d.height < h) ⊎ (h ≤ d.height)
            → at_least h new ≡ cond (leb h d.height) (suc (at_least d.height old)) (at_least h old)
            → at_least h new ≡ cond (leb h d.height) (suc (at_least d.height old)) (at_least h (x ∷ old))
        by (inl l) e = let f = rw (lt-leb h d.height l) at e in rw
            (f, lt-leb h d.height l, lt-leb h x.height (omega arith))
        by (inr l) e = let f = rw (le-leb h d.height l) at e in rw (f, le-leb h d.height l)

    go : (x.height < tallest A) ⊎ (tallest A ≤ x.height)
        → (x.height < tallest (A ++ (d ∷ []))) ⊎ (tallest (A ++ (d ∷ [])) ≤ x.height)
        → Greater (tallest A) d.height (tallest (A ++ (d ∷ [])))
        → at_least h new ≡ cond (leb h d.height) (suc (at_least d.height old)) (at_least h old)
        → at_least h (right_columns (x ∷ (A ++ (d ∷ []))))
        ≡ cond (leb h d.height) (suc (at_least d.height (right_columns (x ∷ A)))) (at_least h (right_columns (x ∷ A)))
    go (inl l) (inl k) m e = rw (lt-ltb _ _ l, lt-ltb _ _ k) e
    go (inl l) (inr k) m e = absurd (omega arith)
    go (inr l) (inr k) m e = rw (le-ltb _ _ l, le-ltb _ _ k) (kept (omega arith) e)
    go (inr l) (inl k) (p, q, inl r) e = absurd (omega arith)
    go (inr l) (inl k) (p, q, inr r) e = rw (le-ltb _ _ l, lt-ltb _ _ k) (lost (omega arith) e)

pub downs_more : (d : Column) (B : List Column) (h : ℕ)
    → length (down_columns h (d ∷ B)) ≡ cond (ltb h d.height) (suc (length (down_columns d.height B))) (length (down_columns h B))
downs_more d B h = go (ltb h d.height)
  where
    go : (t : Bool)
        → length (cond t (d ∷ down_columns d.height B) (down_columns h B)) ≡ cond t (suc (length (down_columns d.height B))) (length (down_columns h B))
    go true = refl
    go false = refl
