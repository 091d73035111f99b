-- The turns of the two passes: counters follow the columns passed, and the numbers written so far are those of the
-- columns passed.
-- Assumes nothing.
use Prim.Native.Nat.{ℕ, suc, ◌+◌, ◌≤◌, ◌<◌}
use native.Mathlib.Omega.{arith}
use native.Mathlib.Numerals.{add-one}
use mathlib.Core.Path.{◌≡◌, refl, sym, ap, ◌∙◌}
use mathlib.Core.Logic.{◌⊎◌, inl, inr}
use mathlib.Core.Bool.{cond}
use mathlib.Core.List.{List, [], ◌∷◌, ◌++◌, append_assoc}
use lib.Dec.{leb, ltb}
use lib.ListN.{length, set, drop, length-append}
use lib.Seq.{set_at}
use borrow.Author.Tests.{lt-ltb, le-ltb, le-leb, lt-leb}
use Rattle.octets.specs.Runs.{patch}
use Rattle.skiplist.specs.Row.{Column}
use Rattle.skiplist.specs.Length.{tallest, right_columns, entry_count}
use Rattle.shapes.specs.Counters.{at_least, rights_from, downs_above, Counts, Raised, downs_of}
use Rattle.skiplist.proofs.Cases.{order}
use Rattle.shapes.proofs.CountLaws.{rights_more, downs_more}

-- the counters of the down entries with a column of height h in front
pub downs-raised : (m r : List ℕ) (d : Column) (B : List Column) → Counts (downs_above B) m
    → Raised m d.height d.height r
    → Counts (downs_above (d ∷ B)) r
downs-raised m r d B c s l =
    s l ∙ rw (c d.height, c l, add-one) (sym (downs_more d B l))

-- the counters of the right entries with a column of height h behind
pub rights-raised : (m r : List ℕ) (A : List Column) (d : Column) → Counts (rights_from A) m
    → Raised m d.height (d.height + 1) r
    → Counts (rights_from (A ++ (d ∷ []))) r
rights-raised m r A d c s l = s l ∙ rw (c d.height, c l, add-one d.height, add-one (rights_from A d.height))
    (by (order d.height l) ∙ sym (rights_more A d l))
  where
    by : (d.height < l) ⊎ (l ≤ d.height)
        → cond (ltb l (suc d.height)) (suc (rights_from A d.height)) (rights_from A l)
        ≡ cond (leb l d.height) (suc (rights_from A d.height)) (rights_from A l)
    by (inl k) = rw (le-ltb l (suc d.height) (omega arith), lt-leb l d.height k)
    by (inr k) = rw (lt-ltb l (suc d.height) (omega arith), le-leb l d.height k)

-- counters stay small
pub downs_few : (h : ℕ) (B : List Column) → downs_above B h ≤ length B
downs_few h [] = omega arith
downs_few h (d ∷ B) = go (order h d.height) (downs_few d.height B) (downs_few h B)
  where
    go : (h < d.height) ⊎ (d.height ≤ h) → downs_above B d.height ≤ length B → downs_above B h ≤ length B
        → downs_above (d ∷ B) h ≤ suc (length B)
    go (inl k) f g = rw (lt-ltb h d.height k) (omega arith)
    go (inr k) f g = rw (le-ltb h d.height k) (omega arith)

at_least_few : (h : ℕ) (A : List Column) → at_least h A ≤ length A
at_least_few h [] = omega arith
at_least_few h (d ∷ A) = go (order d.height h) (at_least_few h A)
  where
    go : (d.height < h) ⊎ (h ≤ d.height) → at_least h A ≤ length A → at_least h (d ∷ A) ≤ suc (length A)
    go (inl k) f = rw (lt-leb h d.height k) (omega arith)
    go (inr k) f = rw (le-leb h d.height k) (omega arith)

right_columns_few : (A : List Column) → length (right_columns A) ≤ length A
right_columns_few [] = omega arith
right_columns_few (d ∷ A) = go (order d.height (tallest A)) (right_columns_few A)
  where
    go : (d.height < tallest A) ⊎ (tallest A ≤ d.height) → length (right_columns A) ≤ length A
        → length (right_columns (d ∷ A)) ≤ suc (length A)
    go (inl k) f = rw (lt-ltb d.height (tallest A) k) (omega arith)
    go (inr k) f = rw (le-ltb d.height (tallest A) k) (omega arith)

pub rights_few : (h : ℕ) (A : List Column) → rights_from A h ≤ length A
rights_few h A = omega (arith, at_least_few h (right_columns A), right_columns_few A)

-- all right columns are of height 0 or more
all_counted : (A : List Column) → at_least 0 A ≡ length A
all_counted [] = refl
all_counted (d ∷ A) = rw (le-leb 0 d.height (omega arith)) (ap suc (all_counted A))

-- the two counters of height 0 make the number of entries
pub both_counters : (A B : List Column) → downs_above B 0 + rights_from A 0 ≡ entry_count A B
both_counters A B = omega (arith, all_counted (right_columns A))

-- ---- what is written
pub length-downs : (B : List Column) → length (downs_of B) ≡ length B
unfolding downs_of
length-downs [] = refl
length-downs (d ∷ B) = ap suc (length-downs B)

pub downs-cons : (d : Column) (B : List Column) → downs_of (d ∷ B) ≡ downs_above B 0 ∷ downs_of B
unfolding downs_of
downs-cons d B = refl

-- a store inside what was written at the front
pub set_written : (xs p : List ℕ) (v w : ℕ) (q : List ℕ) (i : ℕ) → length p ≡ i → length (p ++ (v ∷ q)) ≤ length xs
    → set (patch xs 0 (p ++ (v ∷ q))) i w ≡ patch xs 0 ((p ++ (w ∷ [])) ++ q)
unfolding patch
set_written xs p v w q i e h =
    let l : length (p ++ (v ∷ q)) ≡ length ((p ++ (w ∷ [])) ++ q) = simp (length-append) (omega arith) in
    rw (← l) (simp append_assoc (set_at p v (q ++ drop (0 + length (p ++ (v ∷ q))) xs) w i e))
