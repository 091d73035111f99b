-- Laws of reading: what an entry is by its kind and level, what it adds to position and rank, and runs of entries
-- from either end.
-- Assumes nothing.
use Prim.Native.Nat.{ℕ, zero, suc, ◌+◌, ◌-◌, ◌≤◌, ◌<◌}
use mathlib.Core.Path.{◌≡◌, refl, sym, ap, ◌∙◌}
use mathlib.Core.Bool.{Bool, true, false, cond}
use mathlib.Core.List.{List, [], ◌∷◌}
use native.Mathlib.Omega.{arith}
use native.Mathlib.Nat.{zero-add}
use native.Mathlib.Numerals.{add-one}
use lib.Dec.{eqb}
use lib.ListN.{length, get_or, drop}
use lib.Seq.{drop_at}
use borrow.Author.Tests.{eq-eqb, ne_eqb}
use Rattle.octets.specs.Numbers.{number_at}
use Rattle.octets.specs.Runs.{part}
use Rattle.octets.proofs.PartLaws.{length-part, part-add, get_or-part}
use Rattle.octets.proofs.NumberLaws.{number_at-same}
use Rattle.sha256.specs.Hash.{sha256}
use Rattle.skiplist.specs.Entry.{Entry, down, right, pass}
use Rattle.skiplist.specs.Recompute.{field, passed}
use Rattle.skiplist.specs.Label.{Side, sides}
use Rattle.skiplist.specs.Blocks.{item_of}
use Rattle.proofbytes.specs.declared.read.Fields.{Fields}
use Rattle.proofbytes.specs.Reading.{at, fields_at, entry_of, entry_at, entries_from}
use Rattle.proofbytes.specs.Form.{ahead_of}

-- BY KIND AND LEVEL
module _ (e : Fields) where
  pub entry-down : e.kind ≡ 0 → entry_of e ≡ down e.level (record { rank = e.number; label = e.bytes })
  unfolding entry_of
  entry-down k = rw (eq-eqb e.kind 0 k)

  pub entry-right : (e.kind ≡ 0 → ⊥) → (e.level ≡ 0 → ⊥) → entry_of e
      ≡ right e.level (record { rank = e.number; label = e.bytes })
  unfolding entry_of
  entry-right k l = rw (ne_eqb e.kind 0 k, ne_eqb e.level 0 l)

  pub entry-pass : (e.kind ≡ 0 → ⊥) → e.level ≡ 0 → entry_of e ≡ pass (item_of e.number e.bytes)
  unfolding entry_of
  entry-pass k l = rw (ne_eqb e.kind 0 k, eq-eqb e.level 0 l)

  -- what it adds
  pub passed-entry : (p : List (Entry Side)) → passed (sides sha256) (entry_of e ∷ p)
      ≡ ahead_of e + passed (sides sha256) p
  unfolding entry_of ahead_of
  passed-entry p = go (eqb e.kind 0) (eqb e.level 0)
    where
      go : (x y : Bool)
          → passed (sides sha256) (cond x (down e.level (record { rank = e.number; label = e.bytes }))
          (cond y (pass (item_of e.number e.bytes))
          (right e.level (record { rank = e.number; label = e.bytes }))) ∷ p)
          ≡ cond x 0 e.number + passed (sides sha256) p
      go true y = sym (zero-add (passed (sides sha256) p))
      go false true = refl
      go false false = refl

  pub field-entry : field (sides sha256) (entry_of e) ≡ e.number
  unfolding entry_of
  field-entry = go (eqb e.kind 0) (eqb e.level 0)
    where
      go : (x y : Bool)
          → field (sides sha256) (cond x (down e.level (record { rank = e.number; label = e.bytes }))
          (cond y (pass (item_of e.number e.bytes))
          (right e.level (record { rank = e.number; label = e.bytes }))))
          ≡ e.number
      go true y = refl
      go false true = refl
      go false false = refl

-- RUNS
pub entries_none : (s : List ℕ) (i n : ℕ) → n ≡ 0 → entries_from s i n ≡ []
unfolding entries_from
entries_none s i n e = rw e

pub entries_down : (s : List ℕ) (i k : ℕ) → i < k → entries_from s i (k - i)
    ≡ entry_at s i ∷ entries_from s (i + 1) (k - (i + 1))
unfolding entries_from
entries_down s i k p =
    let n : k - i ≡ suc (k - (i + 1)) = omega (arith, add-one (k - (i + 1))) in
    ap (entries_from s i) n ∙ ap (λ j. entry_at s i ∷ entries_from s j (k - (i + 1))) (sym (add-one i))

pub entries_up : (s : List ℕ) (i k : ℕ) → 0 < i → i ≤ k → entries_from s (i - 1) (k - (i - 1))
    ≡ entry_at s (i - 1) ∷ entries_from s i (k - i)
unfolding entries_from
entries_up s i k p q =
    let n : k - (i - 1) ≡ suc (k - i) = omega (arith, add-one (k - i)) in
    let m : suc (i - 1) ≡ i = omega (arith, add-one (i - 1)) in
    ap (entries_from s (i - 1)) n ∙ ap (λ j. entry_at s (i - 1) ∷ entries_from s j (k - i)) m

pub length-entries : (s : List ℕ) (i n : ℕ) → length (entries_from s i n) ≡ n
unfolding entries_from
length-entries s i zero = refl
length-entries s i (suc n) = ap suc (length-entries s (suc i) n)

-- THE SAME BYTES are the same fields
pub fields_same : (a b : List ℕ) (i : ℕ) → at i + 38 ≤ length a → at i + 38 ≤ length b → part a (at i) 38
    ≡ part b (at i) 38 → fields_at a i ≡ fields_at b i
unfolding fields_at
fields_same a b i ra rb e = λ j. record { kind = kind j; level = level j; number = number j; bytes = bytes j }
  where
    byte : (j : ℕ) → j < 38 → get_or a (at i + j) 0 ≡ get_or b (at i + j) 0
    byte j h = sym (get_or-part a (at i) 38 j h) ∙ ap (λ x. get_or x j 0) e ∙ get_or-part b (at i) 38 j h

    none : at i + 0 ≡ at i
    none = omega arith

    kind : get_or a (at i) 0 ≡ get_or b (at i) 0
    kind = ap (λ x. get_or a x 0) (sym none) ∙ byte 0 (omega arith) ∙ ap (λ x. get_or b x 0) none

    level : get_or a (at i + 1) 0 ≡ get_or b (at i + 1) 0
    level = byte 1 (omega arith)

    number : number_at 4 a (at i + 2) ≡ number_at 4 b (at i + 2)
    number = number_at-same 4 a b (at i + 2) (at i + 2)
        (λ j h. let z : at i + 2 + j ≡ at i + (2 + j) = omega arith in
        ap (λ x. get_or a x 0) z ∙ byte (2 + j) (omega arith) ∙ ap (λ x. get_or b x 0) (sym z))

    tail : (s : List ℕ) → at i + 38 ≤ length s → drop 6 (part s (at i) 38) ≡ part s (at i + 6) 32
    tail s h = ap (drop 6) (part-add s (at i) 6 32) ∙ drop_at (part s (at i) 6) (part s (at i + 6) 32) 6
        (length-part s (at i) 6 (omega arith))

    bytes : part a (at i + 6) 32 ≡ part b (at i + 6) 32
    bytes = sym (tail a ra) ∙ ap (drop 6) e ∙ tail b rb
