-- The positions that a joint proof is asked for, one after the other: each is above the one before, in the row, and has
-- a path of at most 200 entries.
-- Assumes nothing.
use Prim.Native.Nat.{ℕ, ◌+◌, ◌≤◌, ◌<◌}
use native.Mathlib.Omega.{arith}
use native.Mathlib.Numerals.{add-one}
use mathlib.Core.Path.{◌≡◌}
use mathlib.Core.Bool.{true, false, ◌&&◌}
use mathlib.Core.List.{List, [], ◌∷◌}
use lib.Dec.{leb, ltb}
use lib.ListN.{length, drop, get_or, drop_of_length-le}
use lib.Seq.{drop-cons}
use borrow.Author.Tests.{leb-true, ltb-true, lt-leb, le-leb}
use Rattle.skiplist.proofs.Cases.{both, never}
use Rattle.archive.specs.Reading.{count_of}
use Rattle.proofbytes.specs.Layout.{most_entries}
use Rattle.jointbytes.specs.Layout.{most_positions}
use Rattle.jointbytes.specs.Positions.{rises, is_set, within}
use Rattle.store.specs.Answers.{entries_at}
use Rattle.jointstore.specs.Answers.{all_shallow}

-- THE POSITIONS: those still to come after p
pub record Ahead (b : List ℕ) (p : ℕ) (qs : List ℕ) : Type 0 where
  pub in_row : p ≤ count_of b
  pub rising : rises p qs ≡ true
  pub others : within (count_of b) qs ≡ true

pub record Asked (b ps : List ℕ) : Type 0 where
  pub some : 1 ≤ length ps
  pub few : length ps ≤ most_positions
  pub ahead : Ahead b (get_or ps 0 0) (drop 1 ps)

pub asked : (b ps : List ℕ) → is_set ps ≡ true → within (count_of b) ps ≡ true → Asked b ps
unfolding within
asked b [] s w = never cc
asked b (p ∷ ps) s w =
    let some = both (leb 1 (length (p ∷ ps))) (leb (length (p ∷ ps)) most_positions && rises p ps) s in
    let few = both (leb (length (p ∷ ps)) most_positions) (rises p ps) some.1 in
    let here = both (leb 1 p && leb p (count_of b)) (within (count_of b) ps) w in
    record {
      some = omega arith;
      few = leb-true (length (p ∷ ps)) most_positions few.0;
      ahead = record {
        in_row = leb-true p (count_of b) (both (leb 1 p) (leb p (count_of b)) here.0).1;
        rising = few.1;
        others = here.1;
      };
    }

pub record Next (b : List ℕ) (p q : ℕ) (qs : List ℕ) : Type 0 where
  pub above : p < q
  pub ahead : Ahead b q qs

ahead-next : (b : List ℕ) (p q : ℕ) (qs : List ℕ) → Ahead b p (q ∷ qs) → Next b p q qs
unfolding rises within
ahead-next b p q qs a =
    let r = both (ltb p q) (rises q qs) a.rising in
    let w = both (leb 1 q && leb q (count_of b)) (within (count_of b) qs) a.others in
    record {
      above = ltb-true p q r.0;
      ahead = record {
        in_row = leb-true q (count_of b) (both (leb 1 q) (leb q (count_of b)) w.0).1;
        rising = r.1;
        others = w.1;
      };
    }

-- one position more, in a loop
pub rest_next : (ps : List ℕ) (i : ℕ) → i < length ps → drop i ps ≡ get_or ps i 0 ∷ drop (i + 1) ps
rest_next ps i h = rw (add-one, drop-cons ps i 0)

pub next_is : (b ps : List ℕ) (p i : ℕ) → i < length ps → Ahead b p (drop i ps)
    → Next b p (get_or ps i 0) (drop (i + 1) ps)
next_is b ps p i h a = ahead-next b p (get_or ps i 0) (drop (i + 1) ps) (rw (rest_next ps i h) at a)

-- the positions from the i-th on, looked at one by one
pub within_next : (ps : List ℕ) (n i : ℕ) → i < length ps → within n (drop i ps) ≡ true
    → (get_or ps i 0 ≤ n) × (within n (drop (i + 1) ps) ≡ true)
unfolding within
within_next ps n i h e =
    let q = get_or ps i 0 in
    let w = both (leb 1 q && leb q n) (within n (drop (i + 1) ps)) (rw (rest_next ps i h) at e) in
    (leb-true q n (both (leb 1 q) (leb q n) w.0).1, w.1)

module _ (b ps : List ℕ) (i k : ℕ) (ek : k ≡ entries_at b (get_or ps i 0)) (more : i < length ps) where
  pub shallow_stop : most_entries < k → false ≡ all_shallow b (drop i ps)
  unfolding all_shallow
  shallow_stop h = rw (rest_next ps i more, lt-leb (entries_at b (get_or ps i 0)) most_entries (rw ek at h))

  pub shallow_on : k ≤ most_entries → all_shallow b (drop (i + 1) ps) ≡ all_shallow b (drop i ps)
  unfolding all_shallow
  shallow_on h = rw (rest_next ps i more, le-leb (entries_at b (get_or ps i 0)) most_entries (rw ek at h))

pub shallow_end : (b ps : List ℕ) (i : ℕ) → length ps ≤ i → true ≡ all_shallow b (drop i ps)
unfolding all_shallow
shallow_end b ps i h = rw (drop_of_length-le ps h)

-- each is shallow
pub shallow_next : (b ps : List ℕ) (i : ℕ) → i < length ps → all_shallow b (drop i ps) ≡ true
    → (entries_at b (get_or ps i 0) ≤ most_entries) × (all_shallow b (drop (i + 1) ps) ≡ true)
unfolding all_shallow
shallow_next b ps i h e =
    let s = both (leb (entries_at b (get_or ps i 0)) most_entries) (all_shallow b (drop (i + 1) ps))
    (rw (rest_next ps i h) at e) in
    (leb-true (entries_at b (get_or ps i 0)) most_entries s.0, s.1)
