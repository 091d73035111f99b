-- The walk over the entries: what holds after i of them, how one more keeps it, and what it answers in the end.
-- Assumes nothing.
use Prim.Native.Nat.{ℕ, suc, ◌+◌, ◌-◌, ◌*◌, ◌≤◌, ◌<◌}
use mathlib.Core.Path.{◌≡◌, sym, ap, ◌∙◌}
use mathlib.Core.Bool.{Bool, true, false, cond}
use mathlib.Core.List.{List}
use native.Mathlib.Omega.{arith}
use native.Mathlib.Numerals.{add-one}
use lib.Dec.{eqb}
use Rattle.sha256.specs.Hash.{sha256}
use Rattle.skiplist.specs.Recompute.{field, fields, passed}
use Rattle.skiplist.specs.Label.{sides}
use Rattle.proofbytes.specs.declared.read.Fields.{Fields}
use Rattle.proofbytes.specs.declared.read.Beside.{Beside}
use Rattle.std.specs.Prelude.{None, Some}
use Rattle.proofbytes.specs.Reading.{fields_at, beside_at, side_from, entry_at, entries_from}
use Rattle.proofbytes.specs.Form.{ahead_of, judged_of, entries_fit, stop_fits, walk_fits, walked_of}
use Rattle.proofbytes.proofs.ReadingLaws.{passed-entry, field-entry, entries_none, entries_down}

pub ahead_small : (e : Fields) → e.number < 4294967296 → ahead_of e ≤ 4294967296
unfolding ahead_of
ahead_small e h = go (eqb e.kind 0)
  where
    go : (x : Bool) → cond x 0 e.number ≤ 4294967296
    go true = omega arith
    go false = omega arith

-- i of k entries are behind: the rest and the sums so far settle the whole
pub record Walked (s : List ℕ) (k i most position rank : ℕ) : Type 0 where
  pub fit : entries_fit s i (k - i) most ≡ entries_fit s 0 k 15
  pub passes : position + passed (sides sha256) (entries_from s i (k - i)) ≡ passed (sides sha256) (entries_from s 0 k)
  pub adds : rank + fields (sides sha256) (entries_from s i (k - i)) ≡ fields (sides sha256) (entries_from s 0 k)
  pub near : position ≤ 4294967296 * i
  pub small : rank ≤ 4294967296 * i

pub start : (s : List ℕ) (k : ℕ) → Walked s k 0 15 0 0
start s k =
    let e : k - 0 ≡ k = omega arith in
    record {
      fit = rw e;
      passes = rw e (omega arith);
      adds = rw e (omega arith);
      near = omega arith;
      small = omega arith;
    }

module _ (s : List ℕ) (k i most position rank : ℕ) (w : Walked s k i most position rank) where
  one_more : i < k → k - i ≡ suc (k - (i + 1))
  one_more h = omega (arith, add-one (k - (i + 1)))

  pub turn : (e : Fields) (next ahead : ℕ) → i < k → e ≡ fields_at s i → e.number < 4294967296
      → Some next ≡ judged_of e most → ahead ≡ ahead_of e → Walked s k (i + 1) next (position + ahead) (rank + e.number)
  unfolding entries_fit
  turn e next ahead h ee b ej ea = record {
    fit = sym (rw (one_more h, ← ee, sym ej, add-one i)) ∙ w.fit;
    passes = omega (arith, steps, w.passes, ahead_is);
    adds = omega (arith, sums, w.adds);
    near = omega (arith, w.near, ea, ahead_small e b);
    small = omega (arith, w.small);
  }
    where
      ahead_is : ahead ≡ ahead_of (fields_at s i)
      ahead_is = ea ∙ ap ahead_of ee

      steps : passed (sides sha256) (entries_from s i (k - i))
          ≡ ahead_of (fields_at s i) + passed (sides sha256) (entries_from s (i + 1) (k - (i + 1)))
      steps = ap (passed (sides sha256)) (entries_down s i k h)
          ∙ passed-entry (fields_at s i) (entries_from s (i + 1) (k - (i + 1)))

      number : field (sides sha256) (entry_at s i) ≡ e.number
      number = field-entry (fields_at s i) ∙ ap (λ (f : Fields). f.number) (sym ee)

      sums : fields (sides sha256) (entries_from s i (k - i))
          ≡ e.number + fields (sides sha256) (entries_from s (i + 1) (k - (i + 1)))
      sums = ap (fields (sides sha256)) (entries_down s i k h)
          ∙ ap (λ n. n + fields (sides sha256) (entries_from s (i + 1) (k - (i + 1)))) number

  pub broke : (e : Fields) → i < k → e ≡ fields_at s i → None ≡ judged_of e most → None ≡ walked_of s k
  unfolding walked_of walk_fits entries_fit
  broke e h ee ej =
      let z : entries_fit s i (k - i) most ≡ false = rw (one_more h, ← ee, sym ej) in
      sym (rw (sym w.fit ∙ z))

  module _ (e : Fields) (b : Beside) (at_end : i ≡ k) (ee : e ≡ fields_at s k) (eb : b ≡ beside_at s k) {x : Bool}
      (ex : x ≡ stop_fits e b) where
    none_left : k - i ≡ 0
    none_left = omega (arith, at_end)

    all_fit : entries_fit s 0 k 15 ≡ true
    unfolding entries_fit
    all_fit = sym w.fit ∙ rw none_left

    position_is : passed (sides sha256) (entries_from s 0 k) ≡ position
    position_is = omega (arith, w.passes, ap (passed (sides sha256)) (entries_none s i (k - i) none_left))

    rank_is : fields (sides sha256) (entries_from s 0 k) ≡ rank
    rank_is = omega (arith, w.adds, ap (fields (sides sha256)) (entries_none s i (k - i) none_left))

    pub ended : x ≡ true → Some (record { position = position + e.number; rank = rank + (e.number + b.rank) }) ≡ walked_of s k
    unfolding walked_of walk_fits side_from
    ended t = sym (rw (all_fit, ← ee, ← eb, ← ex, t, position_is, rank_is))

    pub ended_broken : x ≡ false → None ≡ walked_of s k
    unfolding walked_of walk_fits
    ended_broken t = sym (rw (all_fit, ← ee, ← eb, ← ex, t))
