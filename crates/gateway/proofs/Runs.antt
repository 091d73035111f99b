-- Entries tested one by one by their fields: kinds, levels, what Insert keeps, and the entries that two proofs share.
-- Assumes nothing.
use Prim.Native.Nat.{ℕ, zero, suc, ◌+◌, ◌-◌, ◌≤◌, ◌<◌}
use mathlib.Core.Path.{◌≡◌, refl, sym, ap, ◌∙◌}
use mathlib.Core.Logic.{◌⊎◌, inl, inr}
use mathlib.Core.List.{List, ◌∷◌}
use mathlib.Core.Bool.{Bool, true, false, cond, not, ◌&&◌}
use native.Mathlib.Omega.{arith}
use native.Mathlib.Numerals.{add-one}
use lib.Dec.{eqb, ltb, leb}
use borrow.Author.Tests.{eqb-true}
use Rattle.octets.specs.Runs.{part, same}
use Rattle.skiplist.specs.Entry.{Entry, down, right, pass, level}
use Rattle.skiplist.specs.Edits.{keeps, kept, remaining}
use Rattle.skiplist.specs.Label as label
use Rattle.skiplist.specs.Blocks.{item_of}
use Rattle.proofbytes.specs.declared.read.Fields.{Fields}
use Rattle.proofbytes.specs.Reading.{at, fields_at, entry_of, entry_at, entries_from, count_of}
use Rattle.proofbytes.proofs.ReadingLaws.{entries_none, entries_down}
use Rattle.std.specs.Prelude.{min}
use Rattle.skiplist.proofs.Cases.{order}
use Rattle.std.proofs.Math.Nat.{min-eq_left, min-eq_right}
use Rattle.gateway.specs.Climbing.{kept_count}
use Rattle.gateway.specs.Parting.{shared_from, shared_of, only_of}

module _ (e : Fields) where
  abbrev down_entry : Entry label.Side
  down_entry = down e.level (record { rank = e.number; label = e.bytes })

  abbrev right_entry : Entry label.Side
  right_entry = right e.level (record { rank = e.number; label = e.bytes })

  abbrev pass_entry : Entry label.Side
  pass_entry = pass (item_of e.number e.bytes)

  pub level-entry : level (entry_of e) ≡ e.level
  unfolding entry_of
  level-entry = go (eqb e.kind 0) (eqb e.level 0) refl
    where
      go : (x y : Bool) → eqb e.level 0 ≡ y → level (cond x down_entry (cond y pass_entry right_entry)) ≡ e.level
      go true y z = refl
      go false true z = sym (eqb-true e.level 0 z)
      go false false z = refl

  pub keeps-entry : (h : ℕ) → keeps h (entry_of e) ≡ cond (eqb e.kind 0) (ltb h e.level) (leb h e.level)
  unfolding entry_of
  keeps-entry h = go (eqb e.kind 0) (eqb e.level 0) refl
    where
      go : (x y : Bool) → eqb e.level 0 ≡ y
          → keeps h (cond x down_entry (cond y pass_entry right_entry)) ≡ cond x (ltb h e.level) (leb h e.level)
      go true y z = refl
      go false true z = ap (leb h) (sym (eqb-true e.level 0 z))
      go false false z = refl

  pub only-entry : (d : Bool) (p : List (Entry label.Side)) → only_of d (entry_of e ∷ p)
      ≡ cond (eqb e.kind 0) d (not d) && only_of d p
  unfolding entry_of only_of
  only-entry d p = go (eqb e.kind 0) (eqb e.level 0) d
    where
      go : (x y d : Bool) → only_of d (cond x down_entry (cond y pass_entry right_entry) ∷ p) ≡ cond x d (not d)
          && only_of d p
      go true y true = refl
      go true y false = refl
      go false true true = refl
      go false true false = refl
      go false false true = refl
      go false false false = refl

-- ONE KIND ONLY
module _ (s : List ℕ) (d : Bool) (i k : ℕ) (more : i < k) where
  pub only_more : {b : Bool} → b ≡ cond (eqb (fields_at s i).kind 0) d (not d) → b ≡ true
      → only_of d (entries_from s (i + 1) (k - (i + 1))) ≡ only_of d (entries_from s i (k - i))
  only_more e t = sym (rw (
    entries_down s i k more,
    only-entry (fields_at s i) d
        (entries_from s (i + 1) (k - (i + 1))),
    ← e,
    t,
  ))

  pub only-not : {b : Bool} → b ≡ cond (eqb (fields_at s i).kind 0) d (not d) → b ≡ false → false
      ≡ only_of d (entries_from s i (k - i))
  only-not e t = sym (rw (
    entries_down s i k more,
    only-entry (fields_at s i) d (entries_from s (i + 1) (k - (i + 1))),
    ← e,
    t,
  ))

pub only_none : (s : List ℕ) (d : Bool) (i n : ℕ) → n ≡ 0 → true ≡ only_of d (entries_from s i n)
unfolding only_of
only_none s true i n e = sym (rw (entries_none s i n e))
only_none s false i n e = sym (rw (entries_none s i n e))

-- WHAT INSERT KEEPS
module _ (s : List ℕ) (h j k : ℕ) (more : j < k) where
  pub kept_more : {b : Bool} → b ≡ keeps h (entry_at s j) → b ≡ true
      → j + 1 + kept_count h (entries_from s (j + 1) (k - (j + 1))) ≡ j + kept_count h (entries_from s j (k - j))
  kept_more e t =
      let one : kept_count h (entries_from s j (k - j)) ≡ suc (kept_count h (entries_from s (j + 1) (k - (j + 1)))) =
      rw (entries_down s j k more, ← e, t) in
      omega (arith, one, add-one (kept_count h (entries_from s (j + 1) (k - (j + 1)))))

  pub kept_not : {b : Bool} → b ≡ keeps h (entry_at s j) → b ≡ false → kept_count h (entries_from s j (k - j)) ≡ 0
  kept_not e t = rw (entries_down s j k more, ← e, t)

pub kept_none : (s : List ℕ) (h j n : ℕ) → n ≡ 0 → kept_count h (entries_from s j n) ≡ 0
kept_none s h j n e = rw (entries_none s j n e)

pub record Cut (s : List ℕ) (h i n : ℕ) : Type 0 where
  pub few : kept_count h (entries_from s i n) ≤ n
  pub above : kept h (entries_from s i n) ≡ entries_from s i (kept_count h (entries_from s i n))
  pub below : remaining h (entries_from s i n) ≡ entries_from s (i + kept_count h (entries_from s i n))
      (n - kept_count h (entries_from s i n))

pub cut : (s : List ℕ) (h n i : ℕ) → Cut s h i n
unfolding entries_from
cut s h zero i = record { few = omega arith; above = refl; below = refl }
cut s h (suc n) i = go (keeps h (entry_at s i)) refl (cut s h n (suc i))
  where
    go : (b : Bool) → keeps h (entry_at s i) ≡ b → Cut s h (suc i) n → Cut s h i (suc n)
    go true e r =
        let c = kept_count h (entries_from s (suc i) n) in
        let along : i + suc c ≡ suc i + c = omega (arith, add-one i, add-one c) in
        let rest : suc n - suc c ≡ n - c = omega (arith, add-one n, add-one c) in
        record {
          few = rw e (omega (arith, r.few, add-one n, add-one c));
          above = rw e (ap (λ q. entry_at s i ∷ q) r.above);
          below = rw (e, along, rest) r.below;
        }
    go false e r =
        let here : i + 0 ≡ i = omega arith in
        let all : suc n - 0 ≡ suc n = omega arith in
        record { few = rw e (omega arith); above = rw e; below = rw (e, here, all) }

-- SHARED ENTRIES
module _ (a b : List ℕ) (j k l : ℕ) (first : j < k) (second : j < l) where
  pub shared_more : {t : Bool} → t ≡ same (part a (at j) 38) (part b (at j) 38) → t ≡ true
      → j + 1 + shared_from a b (j + 1) (k - (j + 1)) (l - (j + 1)) ≡ j + shared_from a b j (k - j) (l - j)
  unfolding shared_from
  shared_more e t =
      let n : k - j ≡ suc (k - (j + 1)) = omega (arith, add-one (k - (j + 1))) in
      let m : l - j ≡ suc (l - (j + 1)) = omega (arith, add-one (l - (j + 1))) in
      let one : shared_from a b j (k - j) (l - j) ≡ suc (shared_from a b (j + 1) (k - (j + 1)) (l - (j + 1))) =
      rw (n, m, ← e, t, add-one j) in
      omega (arith, one, add-one (shared_from a b (j + 1) (k - (j + 1)) (l - (j + 1))))

  pub shared_not : {t : Bool} → t ≡ same (part a (at j) 38) (part b (at j) 38) → t ≡ false
      → shared_from a b j (k - j) (l - j) ≡ 0
  unfolding shared_from
  shared_not e t =
      let n : k - j ≡ suc (k - (j + 1)) = omega (arith, add-one (k - (j + 1))) in
      let m : l - j ≡ suc (l - (j + 1)) = omega (arith, add-one (l - (j + 1))) in
      rw (n, m, ← e, t)

pub shared_first : (a b : List ℕ) (j n m : ℕ) → n ≡ 0 → shared_from a b j n m ≡ 0
unfolding shared_from
shared_first a b j n m e = rw e

pub shared_second : (a b : List ℕ) (j n m : ℕ) → m ≡ 0 → shared_from a b j n m ≡ 0
unfolding shared_from
shared_second a b j zero m e = refl
shared_second a b j (suc n) m e = rw e

-- past the lesser of the two counts
pub shared_out : (a b : List ℕ) (j k l : ℕ) {most : ℕ} → most ≡ min k l → most ≤ j
    → shared_from a b j (k - j) (l - j) ≡ 0
shared_out a b j k l e h = go (order k l)
  where
    go : (k < l) ⊎ (l ≤ k) → shared_from a b j (k - j) (l - j) ≡ 0
    go (inl x) =
        shared_first a b j (k - j) (l - j) (omega (arith, h, e ∙ min-eq_left {n = k} {m = l} (omega (arith, x))))
    go (inr x) = shared_second a b j (k - j) (l - j) (omega (arith, h, e ∙ min-eq_right {n = l} {m = k} x))

pub shared_done : (a b : List ℕ) (j k l : ℕ) {n : ℕ} → j + n ≡ shared_from a b 0 k l → n ≡ 0 → k ≡ count_of a → l
    ≡ count_of b → j ≡ shared_of a b
unfolding shared_of
shared_done a b j k l e z p q = rw (← p, ← q) (omega arith)
