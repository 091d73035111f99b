-- The parting by bytes is the model's parting, the tests there are the model's meeting, and what is left is the
-- model's.
-- Assumes nothing.
use Prim.Native.Nat.{ℕ, zero, suc, ◌+◌, ◌-◌, ◌≤◌, ◌<◌}
use mathlib.Core.Path.{◌≡◌, refl, sym, ap, ap₂, subst, ◌∙◌}
use mathlib.Core.List.{List, [], ◌∷◌, ◌++◌}
use mathlib.Core.Bool.{Bool, true, false, cond, not, ◌&&◌}
use native.Mathlib.Omega.{arith}
use native.Mathlib.Numerals.{add-one}
use lib.Dec.{eqb, ltb}
use lib.ListN.{length}
use borrow.Author.Tests.{ltb-true, ltb-false}
use Rattle.octets.specs.Numbers.{Bytes}
use Rattle.octets.specs.Runs.{part}
use Rattle.octets.specs.Runs as runs
use Rattle.sha256.specs.Hash.{sha256}
use Rattle.sha256.proofs.Hashes.{sha256-length}
use Rattle.skiplist.specs.Row.{Item}
use Rattle.skiplist.specs.Entry.{Entry, down, right, pass}
use Rattle.skiplist.specs.Recompute.{plug, fields}
use Rattle.skiplist.specs.Merge.{rights, downs, only_rights, only_downs, merge}
use Rattle.skiplist.specs.Label.{Side, leaf_side}
use Rattle.skiplist.specs.Equal.{is, item-discrete, side-discrete, same}
use Rattle.skiplist.specs.Meeting.{Parting, later, share, parting, parts_at, parts, only_below, meets, remains}
use Rattle.skiplist.specs.Blocks.{item_of}
use Rattle.skiplist.proofs.Cases.{both, never}
use Rattle.commands.specs.declared.Metadata.{Metadata}
use Rattle.labels.specs.declared.Side as code
use Rattle.labels.specs.CodeSides.{leaf_of}
use Rattle.proofbytes.specs.declared.read.Fields.{Fields}
use Rattle.proofbytes.specs.declared.read.Beside.{Beside}
use Rattle.proofbytes.specs.Reading.{at, fields_at, beside_at, entry_of, side_from, entry_at, entries_from, count_of, place_of}
use Rattle.proofbytes.proofs.ReadingLaws.{entries_none, entries_down}
use Rattle.std.specs.Prelude.{min}
use Rattle.std.proofs.Math.Nat.{min-eq_left, min-eq_right, min-le_right}
use Rattle.gateway.specs.Climbing.{item_at, stop_side_of, stop_leaf, below_of}
use Rattle.gateway.specs.Parting.{shared_from, shared_of, fork_of, halt_of, parts_of, only_from, remains_of}
use Rattle.gateway.specs.Checking.{𝓢}
use Rattle.gateway.specs.Working.{Passed}
use Rattle.gateway.proofs.Exact.{Is, side_stop, leaf_is, climb_is, plug-rank, fields-append, fields-merge}
use Rattle.gateway.proofs.Exact.{entries_split}
use Rattle.gateway.proofs.Tests.{side_test, beside_test, leaf_test, entry_test}

-- THE PARTING, after as many entries as are equal
module _ (a b : List ℕ) where
  abbrev split_at : ℕ → ℕ → ℕ → ℕ → Parting Side
  split_at i n m c = record {
    shared = entries_from a i c;
    first = entries_from a (i + c) (n - c);
    second = entries_from b (i + c) (m - c);
  }

  split_first : (n m i : ℕ) → ((j : ℕ) → j < i + n → j < i + m → same side-discrete (entry_at a j) (entry_at b j)
      ≡ runs.same (part a (at j) 38) (part b (at j) 38))
      → parting side-discrete (entries_from a i n) (entries_from b i m) ≡ split_at i n m (shared_from a b i n m)
  unfolding entries_from shared_from
  split_first zero m i h =
      let z : i + 0 ≡ i = omega arith in
      let w : m - 0 ≡ m = omega arith in
      let v : 0 - 0 ≡ 0 = omega arith in
      rw (z, w)
  split_first (suc n) zero i h =
      let z : i + 0 ≡ i = omega arith in
      let w : suc n - 0 ≡ suc n = omega arith in
      rw (z, w)
  split_first (suc n) (suc m) i h =
      rw (h i (omega (arith, add-one n)) (omega (arith, add-one m)))
      (go (runs.same (part a (at i) 38) (part b (at i) 38))
      (split_first n m (suc i) (λ j p q. h j (omega (arith, add-one i, add-one n))
      (omega (arith, add-one i, add-one m)))))
    where
      go : (x : Bool) → parting side-discrete (entries_from a (suc i) n) (entries_from b (suc i) m)
          ≡ split_at (suc i) n m (shared_from a b (suc i) n m)
          → cond x (share (entry_at a i) (parting side-discrete (entries_from a (suc i) n) (entries_from b (suc i) m)))
          (record {
            shared = [];
            first = entry_at a i ∷ entries_from a (suc i) n;
            second = entry_at b i ∷ entries_from b (suc i) m;
          })
          ≡ split_at i (suc n) (suc m) (cond x (suc (shared_from a b (suc i) n m)) 0)
      go true e =
          let c = shared_from a b (suc i) n m in
          let z : i + suc c ≡ suc i + c = omega (arith, add-one i, add-one c) in
          let w : suc n - suc c ≡ n - c = omega (arith, add-one n, add-one c) in
          let v : suc m - suc c ≡ m - c = omega (arith, add-one m, add-one c) in
          rw (e, z, w, v)
      go false e =
          let z : i + 0 ≡ i = omega arith in
          let w : suc n - 0 ≡ suc n = omega arith in
          let v : suc m - 0 ≡ suc m = omega arith in
          rw (z, w, v)

shared_low : (a b : List ℕ) (n m i : ℕ) → (shared_from a b i n m ≤ n) × (shared_from a b i n m ≤ m)
unfolding shared_from
shared_low a b zero m i = (omega arith, omega arith)
shared_low a b (suc n) zero i = (omega arith, omega arith)
shared_low a b (suc n) (suc m) i = go (runs.same (part a (at i) 38) (part b (at i) 38)) (shared_low a b n m (suc i))
  where
    go : (x : Bool) → (shared_from a b (suc i) n m ≤ n) × (shared_from a b (suc i) n m ≤ m)
        → (cond x (suc (shared_from a b (suc i) n m)) 0 ≤ suc n) × (cond x (suc (shared_from a b (suc i) n m)) 0 ≤ suc m)
    go true r = (omega arith, omega arith)
    go false r = (omega arith, omega arith)

pub first_low : (a b : List ℕ) → shared_of a b ≤ count_of a
unfolding shared_of
first_low a b = (shared_low a b (count_of a) (count_of b) 0).0

-- what comes after the parting
min_next : (j k : ℕ) → j < k → min (j + 1) k ≡ j + 1
min_next j k l = min-eq_left {n = j + 1} {m = k} (omega (arith, l))

pub later_is : (s : List ℕ) (j k : ℕ) → j ≤ k → later (entries_from s j (k - j))
    ≡ entries_from s (min (j + 1) k) (k - min (j + 1) k)
later_is s j k h = go (ltb j k) refl
  where
    go : (x : Bool) → ltb j k ≡ x → later (entries_from s j (k - j))
        ≡ entries_from s (min (j + 1) k) (k - min (j + 1) k)
    go true e =
        let l = ltb-true j k e in
        ap later (entries_down s j k l) ∙ ap (λ i. entries_from s i (k - i)) (sym (min_next j k l))
    go false e =
        let l = ltb-false j k e in
        let n : min (j + 1) k ≡ k = min-eq_right {n = k} {m = j + 1} (omega (arith, l)) in
        ap later (entries_none s j (k - j) (omega arith)) ∙ sym (rw n (entries_none s k (k - k) (omega arith)))

-- WHAT A PROOF RECOMPUTES below a place, where it passed
module _ (s : List ℕ) (m : Metadata) (small : m.count ≤ 4096) (passed : Passed s m) where
  pub total : fields 𝓢 (entries_from s 0 (count_of s)) + ((item_at s (count_of s)).own + (side_from
      (beside_at s (count_of s))).rank) ≤ 4096
  total = omega (arith, passed.counted)

  pub part_sum : (i : ℕ) → i ≤ count_of s → fields 𝓢 (entries_from s 0 i) + fields 𝓢 (entries_from s i (count_of s - i))
      ≡ fields 𝓢 (entries_from s 0 (count_of s))
  part_sum i h =
      let k = count_of s in
      let e : i + (k - i) ≡ k = omega arith in
      let z : 0 + i ≡ i = omega arith in
      sym (ap (λ n. fields 𝓢 (entries_from s 0 n)) (sym e)
      ∙ ap (fields 𝓢) (entries_split s i 0 (k - i) ∙ ap (λ j. entries_from s 0 i ++ entries_from s j (k - i)) z)
      ∙ fields-append (entries_from s 0 i) (entries_from s i (k - i)))

  pub below_is : (f : ℕ) → Is (below_of s f) (plug 𝓢 (entries_from s (min f (count_of s))
      (count_of s - min f (count_of s))) (leaf_side sha256 (place_of s).item (place_of s).side))
  unfolding below_of
  below_is f =
      let sum = part_sum (min f (count_of s)) (min-le_right f (count_of s)) in
      climb_is (entries_from s (min f (count_of s)) (count_of s - min f (count_of s))) (stop_leaf s (count_of s))
      (leaf_is (item_at s (count_of s)) (stop_side_of (beside_at s (count_of s))) (side_stop (beside_at s (count_of s)))
      (omega (arith, total)))
      (omega (arith, total, sum))

-- a label that was recomputed has 32 bytes
plug-label : (p : List (Entry Side)) (c : Item) (r : Side) → length (plug 𝓢 p (leaf_side sha256 c r)).label ≡ 32
plug-label [] c r = sha256-length _
plug-label (down l s ∷ p) c r = sha256-length _
plug-label (right l s ∷ p) c r = sha256-length _
plug-label (pass d ∷ p) c r = sha256-length _

-- THE TESTS AT THE PARTING
module _ (e d : Fields) (P Q : List (Entry Side)) (c : Item) (r : Side) (x : Item) (w : Side) {u v : code.Side}
    (iu : Is u (plug 𝓢 P (leaf_side sha256 c r))) (iv : Is v (plug 𝓢 Q (leaf_side sha256 x w))) where
  fork_is : parts_at 𝓢 side-discrete (entry_of e ∷ P) c r (entry_of d ∷ Q) x w ≡ fork_of e u d v
  unfolding entry_of fork_of
  fork_is = rw (← (side_test iv e), ← (side_test iu d))
      (go (eqb e.kind 0) (eqb e.level 0) (eqb d.kind 0) (eqb d.level 0))
    where
      E : Bool → Bool → Entry Side
      E p q = cond p (down e.level (record { rank = e.number; label = e.bytes }))
          (cond q (pass (item_of e.number e.bytes))
          (right e.level (record { rank = e.number; label = e.bytes })))

      D : Bool → Bool → Entry Side
      D p q = cond p (down d.level (record { rank = d.number; label = d.bytes }))
          (cond q (pass (item_of d.number d.bytes))
          (right d.level (record { rank = d.number; label = d.bytes })))

      go : (p q y z : Bool) → parts_at 𝓢 side-discrete (E p q ∷ P) c r (D y z ∷ Q) x w
          ≡ p && (not y && (not z && (eqb e.level d.level
          && (is (side-discrete (record { rank = e.number; label = e.bytes }) (plug 𝓢 Q (leaf_side sha256 x w)))
          && is (side-discrete (record { rank = d.number; label = d.bytes }) (plug 𝓢 P (leaf_side sha256 c r)))))))
      go true q true z = refl
      go true q false true = refl
      go true q false false = refl
      go false true y z = refl
      go false false y z = refl

module _ (e : Fields) (b : Beside) (d : Fields) (Q : List (Entry Side)) (x : Item) (w : Side) {v : code.Side}
    (iv : Is v (plug 𝓢 Q (leaf_side sha256 x w))) where
  halt_is : parts_at 𝓢 side-discrete [] (item_of e.number e.bytes) (side_from b) (entry_of d ∷ Q) x w ≡ halt_of e b d v
  unfolding entry_of halt_of
  halt_is = rw (← (leaf_test e d), ← (beside_test iv b (plug-label Q x w))) (go (eqb d.kind 0) (eqb d.level 0))
    where
      D : Bool → Bool → Entry Side
      D p q = cond p (down d.level (record { rank = d.number; label = d.bytes }))
          (cond q (pass (item_of d.number d.bytes))
          (right d.level (record { rank = d.number; label = d.bytes })))

      go : (y z : Bool) → parts_at 𝓢 side-discrete [] (item_of e.number e.bytes) (side_from b) (D y z ∷ Q) x w
          ≡ not y && (z && (is (item-discrete (item_of e.number e.bytes) (item_of d.number d.bytes))
          && is (side-discrete (side_from b) (plug 𝓢 Q (leaf_side sha256 x w)))))
      go true z = refl
      go false true = refl
      go false false = refl

parts_none : (p : List (Entry Side)) (c : Item) (r : Side) (x : Item) (w : Side)
    → parts_at 𝓢 side-discrete p c r [] x w ≡ false
parts_none [] c r x w = refl
parts_none (down l s ∷ p) c r x w = refl
parts_none (right l s ∷ p) c r x w = refl
parts_none (pass d ∷ p) c r x w = refl

rights-only : (p : List (Entry Side)) → only_rights p ≡ true → rights p ≡ p
rights-only [] e = refl
rights-only (down l s ∷ p) e = never cc
rights-only (right l s ∷ p) e = rw (rights-only p e)
rights-only (pass c ∷ p) e = rw (rights-only p e)

downs-only : (p : List (Entry Side)) → only_downs p ≡ true → downs p ≡ p
downs-only [] e = refl
downs-only (down l s ∷ p) e = rw (downs-only p e)
downs-only (right l s ∷ p) e = never cc
downs-only (pass c ∷ p) e = never cc

-- TWO PROOFS THAT PASSED
module _ (a b : List ℕ) (m : Metadata) (small : m.count ≤ 4096) (ba : Bytes a) (bb : Bytes b) (pa : Passed a m)
    (pb : Passed b m) where
  low : (shared_of a b ≤ count_of a) × (shared_of a b ≤ count_of b)
  unfolding shared_of
  low = shared_low a b (count_of a) (count_of b) 0

  parting_is : parting side-discrete (place_of a).entries (place_of b).entries
      ≡ record {
        shared = entries_from a 0 (shared_of a b);
        first = entries_from a (shared_of a b) (count_of a - shared_of a b);
        second = entries_from b (shared_of a b) (count_of b - shared_of a b);
      }
  unfolding shared_of
  parting_is =
      let z : 0 + shared_from a b 0 (count_of a) (count_of b) ≡ shared_from a b 0 (count_of a) (count_of b) = omega arith in
      split_first a b (count_of a) (count_of b) 0 (λ j p q. entry_test a b ba bb pa.formed pb.formed j
      (omega arith) (omega arith))
      ∙ rw z

  at_parting : parts_at 𝓢 side-discrete (entries_from a (shared_of a b) (count_of a - shared_of a b)) (place_of a).item
      (place_of a).side
      (entries_from b (shared_of a b) (count_of b - shared_of a b)) (place_of b).item (place_of b).side
      ≡ parts_of a (count_of a) b (count_of b) (shared_of a b) (below_of a (shared_of a b + 1)) (below_of b (shared_of a b + 1))
  unfolding parts_of
  at_parting = go (ltb j l) (ltb j k) refl refl
    where
      j : ℕ
      j = shared_of a b

      k : ℕ
      k = count_of a

      l : ℕ
      l = count_of b

      u : j < k → Is (below_of a (j + 1)) (plug 𝓢 (entries_from a (j + 1) (k - (j + 1)))
          (leaf_side sha256 (place_of a).item (place_of a).side))
      u h = rw (min_next j k h) at (below_is a m small pa (j + 1))

      v : j < l → Is (below_of b (j + 1)) (plug 𝓢 (entries_from b (j + 1) (l - (j + 1)))
          (leaf_side sha256 (place_of b).item (place_of b).side))
      v h = rw (min_next j l h) at (below_is b m small pb (j + 1))

      go : (x y : Bool) → ltb j l ≡ x → ltb j k ≡ y
          → parts_at 𝓢 side-discrete (entries_from a j (k - j)) (place_of a).item (place_of a).side
          (entries_from b j (l - j)) (place_of b).item (place_of b).side
          ≡ cond x (cond y (fork_of (fields_at a j) (below_of a (j + 1)) (fields_at b j) (below_of b (j + 1)))
          (halt_of (fields_at a k) (beside_at a k) (fields_at b j) (below_of b (j + 1)))) false
      go false y ex ey = rw (entries_none b j (l - j) (omega (arith, ltb-false j l ex)))
          (parts_none (entries_from a j (k - j)) _ _ _ _)
      go true true ex ey =
          let hb = ltb-true j l ex in
          let ha = ltb-true j k ey in
          rw (entries_down a j k ha, entries_down b j l hb)
          (fork_is (fields_at a j) (fields_at b j) (entries_from a (j + 1) (k - (j + 1)))
          (entries_from b (j + 1) (l - (j + 1)))
          (place_of a).item (place_of a).side (place_of b).item (place_of b).side (u ha) (v hb))
      go true false ex ey =
          let hb = ltb-true j l ex in
          let ha = ltb-false j k ey in
          rw (entries_none a j (k - j) (omega (arith, ha)), entries_down b j l hb)
          (halt_is (fields_at a k) (beside_at a k) (fields_at b j) (entries_from b (j + 1) (l - (j + 1)))
          (place_of b).item (place_of b).side (v hb))

  parts_is : parts 𝓢 side-discrete (place_of a) (place_of b)
      ≡ parts_of a (count_of a) b (count_of b) (shared_of a b) (below_of a (shared_of a b + 1)) (below_of b (shared_of a b + 1))
  parts_is =
      ap (λ (g : Parting Side). parts_at 𝓢 side-discrete g.first (place_of a).item (place_of a).side g.second
      (place_of b).item (place_of b).side) parting_is
      ∙ at_parting

  only_is : only_below 𝓢 side-discrete (place_of a) (place_of b) ≡ only_from a (count_of a) b (count_of b) (shared_of a b)
  unfolding only_from
  only_is =
      ap (λ (g : Parting Side). only_rights (later g.first) && only_downs (later g.second)) parting_is
      ∙ rw (later_is a (shared_of a b) (count_of a) low.0, later_is b (shared_of a b) (count_of b) low.1)

  -- the two meet
  pub meets_is : meets 𝓢 side-discrete (place_of a) (place_of b)
      ≡ parts_of a (count_of a) b (count_of b) (shared_of a b) (below_of a (shared_of a b + 1)) (below_of b (shared_of a b + 1))
      && only_from a (count_of a) b (count_of b) (shared_of a b)
  meets_is = ap₂ (λ x y. x && y) parts_is only_is

  -- and what is left
  pub remains_is : only_from a (count_of a) b (count_of b) (shared_of a b) ≡ true
      → Is (remains_of a (count_of a) b (count_of b) (shared_of a b)) (remains 𝓢 side-discrete (place_of a) (place_of b))
  unfolding only_from remains_of
  remains_is o = subst (Is (remains_of a (count_of a) b (count_of b) (shared_of a b))) (sym whole) made
    where
      P : List (Entry Side)
      P = entries_from a (min (shared_of a b + 1) (count_of a)) (count_of a - min (shared_of a b + 1) (count_of a))

      Q : List (Entry Side)
      Q = entries_from b (min (shared_of a b + 1) (count_of b)) (count_of b - min (shared_of a b + 1) (count_of b))

      h : (only_rights P ≡ true) × (only_downs Q ≡ true)
      h = both (only_rights P) (only_downs Q) o

      whole : remains 𝓢 side-discrete (place_of a) (place_of b)
          ≡ plug 𝓢 (entries_from a 0 (shared_of a b)) (plug 𝓢 (merge P Q)
          (leaf_side sha256 (place_of a).item (place_of b).side))
      whole =
          ap (λ (g : Parting Side). plug 𝓢 g.shared (plug 𝓢
          (merge (rights (later g.first)) (downs (later g.second)))
          (leaf_side sha256 (place_of a).item (place_of b).side))) parting_is
          ∙ rw (
            later_is a (shared_of a b) (count_of a) low.0,
            later_is b (shared_of a b) (count_of b) low.1,
            rights-only P h.0,
            downs-only Q h.1,
          )

      sums : (fields 𝓢 (entries_from a 0 (shared_of a b)) ≤ 4096) × (fields 𝓢 P ≤ 4096) × (fields 𝓢 Q ≤ 4096)
      sums = (
        omega (arith, total a m small pa, part_sum a m small pa (shared_of a b) low.0),
        omega (
          arith,
          total a m small pa,
          part_sum a m small pa (min (shared_of a b + 1) (count_of a))
              (min-le_right (shared_of a b + 1) (count_of a)),
        ),
        omega (
          arith,
          total b m small pb,
          part_sum b m small pb (min (shared_of a b + 1) (count_of b))
              (min-le_right (shared_of a b + 1) (count_of b)),
        ),
      )

      leaf : Is (leaf_of (item_at a (count_of a)) (stop_side_of (beside_at b (count_of b))))
          (leaf_side sha256 (place_of a).item (place_of b).side)
      leaf = leaf_is (item_at a (count_of a)) (stop_side_of (beside_at b (count_of b))) (side_stop (beside_at b (count_of b)))
          (omega (arith, total a m small pa, total b m small pb))

      made : Is (remains_of a (count_of a) b (count_of b) (shared_of a b))
          (plug 𝓢 (entries_from a 0 (shared_of a b)) (plug 𝓢 (merge P Q)
          (leaf_side sha256 (place_of a).item (place_of b).side)))
      made = climb_is (entries_from a 0 (shared_of a b)) _
          (climb_is (merge P Q) _ leaf (omega (
            arith,
            total a m small pa,
            total b m small pb,
            sums.1,
            sums.2,
            fields-merge P Q,
          )))
          (omega (
            arith,
            total a m small pa,
            total b m small pb,
            sums.0,
            sums.1,
            sums.2,
            fields-merge P Q,
            plug-rank (merge P Q) (leaf_side sha256 (place_of a).item (place_of b).side),
          ))
