-- Merging from below: the lower of two entries first, and at equal level the second's. What is made so is the merge
-- from the root.
-- Assumes nothing.
use Prim.Native.Nat.{ℕ, zero, suc, pred, ◌+◌, ◌-◌, ◌≤◌, ◌<◌}
use mathlib.Core.Path.{◌≡◌, refl, sym, ap, ◌∙◌}
use mathlib.Core.List.{List, [], ◌∷◌}
use mathlib.Core.Bool.{Bool, true, false, cond, ◌&&◌}
use native.Mathlib.Omega.{arith}
use native.Mathlib.Numerals.{add-one}
use lib.Dec.{ltb}
use borrow.Author.Tests.{le-leb, lt-leb, ltb-true, ltb-false}
use Rattle.skiplist.specs.Entry.{Entry, down, right, pass, level, Falls}
use Rattle.skiplist.specs.Merge.{merge}
use Rattle.skiplist.specs.Label as label
use Rattle.labels.specs.declared.Side.{Side}
use Rattle.proofbytes.specs.Reading.{fields_at, entry_at, entries_from}
use Rattle.proofbytes.proofs.ReadingLaws.{entries_none, entries_up}
use Rattle.gateway.specs.Climbing.{climbed, push_if}
use Rattle.gateway.specs.Parting.{lower_of}
use Rattle.gateway.proofs.Runs.{level-entry}
use Rattle.skiplist.proofs.Cases.{never}

abbrev level_at : List ℕ → ℕ → ℕ
level_at s i = (fields_at s i).level

-- the first entry's level is at most, is below m
abbrev HeadLe : ℕ → List (Entry label.Side) → Type 0
HeadLe m [] = Unit {0}
HeadLe m (e ∷ p) = level e ≤ m

abbrev HeadLt : ℕ → List (Entry label.Side) → Type 0
HeadLt m [] = Unit {0}
HeadLt m (e ∷ p) = level e < m

merge_none : (p : List (Entry label.Side)) → merge p [] ≡ p
merge_none [] = refl
merge_none (e ∷ p) = refl

merge_first : (e : Entry label.Side) (p q : List (Entry label.Side)) → HeadLe (level e) q → merge (e ∷ p) q
    ≡ e ∷ merge p q
merge_first e p [] h = ap (λ r. e ∷ r) (sym (merge_none p))
merge_first e p (d ∷ q) h = rw (le-leb (level d) (level e) h)

merge_second : (d : Entry label.Side) (p q : List (Entry label.Side)) → HeadLt (level d) p → merge p (d ∷ q)
    ≡ d ∷ merge p q
merge_second d [] q h = refl
merge_second d (e ∷ p) q h = rw (lt-leb (level d) (level e) h)

head_le : (s : List ℕ) (i m n : ℕ) → (0 < n → level_at s i ≤ m) → HeadLe m (entries_from s i n)
unfolding entries_from
head_le s i m zero h = tt
head_le s i m (suc n) h = rw (level-entry (fields_at s i)) (h (omega arith))

head_lt : (s : List ℕ) (i m n : ℕ) → (0 < n → level_at s i < m) → HeadLt m (entries_from s i n)
unfolding entries_from
head_lt s i m zero h = tt
head_lt s i m (suc n) h = rw (level-entry (fields_at s i)) (h (omega arith))

-- LEVELS FALL
falls_head : (m : ℕ) (e : Entry label.Side) (p : List (Entry label.Side)) → Falls m (e ∷ p) → level e ≤ m
falls_head m (down l s) p f = f.1
falls_head m (right l s) p f = f.1
falls_head m (pass c) p f = omega arith

falls_next : (m : ℕ) (e d : Entry label.Side) (p : List (Entry label.Side)) → Falls m (e ∷ d ∷ p) → level d ≤ level e
falls_next m (down l s) d p f = let h = falls_head (pred l) d p f.2 in omega arith
falls_next m (right l s) d p f = falls_head l d p f.2
falls_next m (pass c) d p f = falls_head 0 d p f

falls_tail : (m : ℕ) (e : Entry label.Side) (p : List (Entry label.Side)) → Falls m (e ∷ p) → (n : ℕ) × Falls n p
falls_tail m (down l s) p f = (pred l, f.2)
falls_tail m (right l s) p f = (l, f.2)
falls_tail m (pass c) p f = (0, f)

falls_at : (s : List ℕ) (n i m j : ℕ) → Falls m (entries_from s i n) → suc j < n
    → level (entry_at s (suc (i + j))) ≤ level (entry_at s (i + j))
unfolding entries_from
falls_at s zero i m j f h = absurd (omega arith)
falls_at s (suc zero) i m j f h = absurd (omega arith)
falls_at s (suc (suc n)) i m zero f h =
    let z : i + 0 ≡ i = omega arith in rw z (falls_next m (entry_at s i) (entry_at s (suc i))
    (entries_from s (suc (suc i)) n) f)
falls_at s (suc (suc n)) i m (suc j) f h =
    let t = falls_tail m (entry_at s i) (entries_from s (suc i) (suc n)) f in
    let z : i + suc j ≡ suc i + j = omega (arith, add-one i, add-one j) in
    rw z (falls_at s (suc n) (suc i) t.0 j t.1 (omega arith))

falls_adjacent : (s : List ℕ) (k i : ℕ) → Falls 15 (entries_from s 0 k) → 0 < i → i < k → level_at s i ≤ level_at s (i - 1)
falls_adjacent s k i f p q =
    let a : suc (0 + (i - 1)) ≡ i = omega (arith, add-one (i - 1)) in
    let b : 0 + (i - 1) ≡ i - 1 = omega arith in
    let h = falls_at s k 0 15 (i - 1) f (omega (arith, add-one (i - 1))) in
    rw (a, b, level-entry (fields_at s i), level-entry (fields_at s (i - 1))) at h

push_all : (d : Entry label.Side) (P : List (Entry label.Side)) (t : Side) → push_if true true d (climbed P t)
    ≡ climbed (d ∷ P) t
push_all (down l s) P t = refl
push_all (right l s) P t = refl
push_all (pass c) P t = refl

-- the first's entries from i on and the second's from j on are merged
pub record Merged (a : List ℕ) (f k : ℕ) (b : List ℕ) (g l : ℕ) (t : Side) (i j : ℕ) (x : Side) : Type 0 where
  pub i_low : f ≤ i
  pub i_high : i ≤ k
  pub j_low : g ≤ j
  pub j_high : j ≤ l
  pub so : x ≡ climbed (merge (entries_from a i (k - i)) (entries_from b j (l - j))) t
  pub first_lower : i < k → g < j → (fields_at a i).level < (fields_at b (j - 1)).level
  pub second_lower : j < l → f < i → (fields_at b j).level ≤ (fields_at a (i - 1)).level

pub merge_start : (a : List ℕ) (f k : ℕ) (b : List ℕ) (g l : ℕ) (t : Side) → f ≤ k → g ≤ l → Merged a f k b g l t k l t
merge_start a f k b g l t p q = record {
  i_low = p;
  i_high = omega arith;
  j_low = q;
  j_high = omega arith;
  so = rw (entries_none a k (k - k) (omega arith), entries_none b l (l - l) (omega arith));
  first_lower = λ z w. absurd (omega arith);
  second_lower = λ z w. absurd (omega arith);
}

-- what the choice says
record First (a : List ℕ) (f i : ℕ) (b : List ℕ) (g j : ℕ) : Type 0 where
  more : f < i
  lower : g < j → level_at a (i - 1) < level_at b (j - 1)

false-true : {P : Type 0} → false ≡ true → P
false-true e = never cc

module _ (a : List ℕ) (f i : ℕ) (b : List ℕ) (g j : ℕ) where
  chose_first : lower_of a f i b g j ≡ true → First a f i b g j
  unfolding lower_of
  chose_first e = go (ltb f i) (ltb g j) refl refl e
    where
      go : (x y : Bool) → ltb f i ≡ x → ltb g j ≡ y → x && cond y (ltb (level_at a (i - 1)) (level_at b (j - 1))) true
          ≡ true → First a f i b g j
      go true true u v w = record { more = ltb-true f i u; lower = λ z. ltb-true _ _ w }
      go true false u v w = record { more = ltb-true f i u; lower = λ z. absurd (omega (arith, ltb-false g j v)) }
      go false y u v w = false-true w

  chose_second : lower_of a f i b g j ≡ false → f < i → (g < j) × (level_at b (j - 1) ≤ level_at a (i - 1))
  unfolding lower_of
  chose_second e h = go (ltb f i) (ltb g j) refl refl e
    where
      go : (x y : Bool) → ltb f i ≡ x → ltb g j ≡ y → x && cond y (ltb (level_at a (i - 1)) (level_at b (j - 1))) true
          ≡ false
          → (g < j) × (level_at b (j - 1) ≤ level_at a (i - 1))
      go true true u v w = (ltb-true g j v, ltb-false _ _ w)
      go true false u v w = false-true (sym w)
      go false y u v w = absurd (omega (arith, ltb-false f i u))

module _ (a : List ℕ) (f k : ℕ) (b : List ℕ) (g l : ℕ) (t : Side) (i j : ℕ) {x : Side}
    (m : Merged a f k b g l t i j x) {o : Bool} (eo : o ≡ lower_of a f i b g j) where
  pub first_more : o ≡ true → f < i
  first_more q = (chose_first a f i b g j (sym eo ∙ q)).more

  pub merge_one : {y : Side} → Falls 15 (entries_from a 0 k) → o ≡ true → y ≡ push_if true true (entry_at a (i - 1)) x
      → Merged a f k b g l t (i - 1) j y
  merge_one fa q ey = record {
    i_low = omega (arith, h);
    i_high = omega (arith, m.i_high);
    j_low = m.j_low;
    j_high = m.j_high;
    so = ey ∙ rw m.so (push_all (entry_at a (i - 1)) (merge (entries_from a i (k - i)) (entries_from b j (l - j))) t
        ∙ ap (λ r. climbed r t) (sym step));
    first_lower = λ z w. c.lower w;
    second_lower = λ z w. omega (
      arith,
      m.second_lower z h,
      falls_adjacent a k (i - 1) fa (omega arith)
          (omega (arith, m.i_high)),
    );
  }
    where
      c : First a f i b g j
      c = chose_first a f i b g j (sym eo ∙ q)

      h : f < i
      h = c.more

      step : merge (entries_from a (i - 1) (k - (i - 1))) (entries_from b j (l - j))
          ≡ entry_at a (i - 1) ∷ merge (entries_from a i (k - i)) (entries_from b j (l - j))
      step = ap (λ r. merge r (entries_from b j (l - j))) (entries_up a i k (omega (arith, h)) m.i_high)
          ∙ merge_first (entry_at a (i - 1)) (entries_from a i (k - i)) (entries_from b j (l - j))
          (head_le b j _ (l - j) (λ z. rw (level-entry (fields_at a (i - 1))) (m.second_lower (omega arith) h)))

  pub second_more : o ≡ false → f + g < i + j → g < j
  second_more q h = go (ltb f i) refl
    where
      go : (y : Bool) → ltb f i ≡ y → g < j
      go true e = (chose_second a f i b g j (sym eo ∙ q) (ltb-true f i e)).0
      go false e = omega (arith, ltb-false f i e)

  pub merge_other : {y : Side} → Falls 15 (entries_from b 0 l) → o ≡ false → f + g < i + j → y
      ≡ push_if true true (entry_at b (j - 1)) x
      → Merged a f k b g l t i (j - 1) y
  merge_other fb q sum ey = record {
    i_low = m.i_low;
    i_high = m.i_high;
    j_low = omega (arith, h);
    j_high = omega (arith, m.j_high);
    so = ey ∙ rw m.so (push_all (entry_at b (j - 1)) (merge (entries_from a i (k - i)) (entries_from b j (l - j))) t
        ∙ ap (λ r. climbed r t) (sym step));
    first_lower = λ z w. omega (
      arith,
      m.first_lower z h,
      falls_adjacent b l (j - 1) fb (omega arith)
          (omega (arith, m.j_high)),
    );
    second_lower = λ z w. (chose_second a f i b g j (sym eo ∙ q) w).1;
  }
    where
      h : g < j
      h = second_more q sum

      step : merge (entries_from a i (k - i)) (entries_from b (j - 1) (l - (j - 1)))
          ≡ entry_at b (j - 1) ∷ merge (entries_from a i (k - i)) (entries_from b j (l - j))
      step = ap (merge (entries_from a i (k - i))) (entries_up b j l (omega (arith, h)) m.j_high)
          ∙ merge_second (entry_at b (j - 1)) (entries_from a i (k - i)) (entries_from b j (l - j))
          (head_lt a i _ (k - i) (λ z. rw (level-entry (fields_at b (j - 1))) (m.first_lower (omega arith) h)))

pub merge_done : (a : List ℕ) (f k : ℕ) (b : List ℕ) (g l : ℕ) (t : Side) (i j : ℕ) {x : Side}
    → Merged a f k b g l t i j x → i + j ≤ f + g
    → x ≡ climbed (merge (entries_from a f (k - f)) (entries_from b g (l - g))) t
merge_done a f k b g l t i j m h =
    let e : i ≡ f = omega (arith, m.i_low, m.j_low) in
    let d : j ≡ g = omega (arith, m.i_low, m.j_low) in
    rw (e, d) at m.so
