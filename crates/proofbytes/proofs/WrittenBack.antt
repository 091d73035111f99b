-- BYTES THAT ARE READ WRITE BACK TO THEMSELVES, so that no two byte strings are read as one path; and the path keeps
-- the rules.
-- Assumes nothing.
use Prim.Native.Nat.{ℕ, zero, suc, pred, ◌+◌, ◌*◌, ◌≤◌, ◌<◌}
use mathlib.Core.Path.{◌≡◌, refl, sym, ap, ap₂, ◌∙◌}
use mathlib.Core.Logic.{◌⊎◌, inl, inr}
use mathlib.Core.Bool.{Bool, true, false}
use mathlib.Core.List.{List, [], ◌∷◌, ◌++◌}
use native.Mathlib.Omega.{arith}
use native.Mathlib.Numerals.{add-one}
use lib.ListN.{length, get_or, replicate}
use borrow.Author.Tests.{eq-eqb, ne_eqb}
use Rattle.octets.specs.Numbers.{be, number_at, Bytes}
use Rattle.octets.specs.Runs.{part, all_zero}
use Rattle.octets.proofs.NumberLaws.{write_back}
use Rattle.octets.proofs.PartLaws.{length-part, part_none, part_all, part-cons, part-add}
use Rattle.octets.proofs.RunLaws.{zero-true}
use Rattle.skiplist.specs.Row.{Item}
use Rattle.skiplist.specs.Entry.{Entry, down, right, pass, Place, Falls}
use Rattle.skiplist.specs.Leaves as leaves
use Rattle.skiplist.specs.Check.{WellFormed}
use Rattle.skiplist.specs.Limits.{most_height}
use Rattle.skiplist.specs.Label.{Side}
use Rattle.skiplist.specs.Blocks.{Sent, item_of, shown}
use Rattle.skiplist.proofs.Cases.{both, never}
use Rattle.proofbytes.specs.declared.read.Beside.{Beside}
use Rattle.std.specs.Prelude.{Option, None, Some}
use Rattle.proofbytes.specs.Writing.{header_bytes, field_bytes, entry_bytes, entries_bytes, label_field, stop_fields}
use Rattle.proofbytes.specs.Writing.{stop_bytes, proof_bytes}
use Rattle.proofbytes.specs.Reading.{at, fields_at, beside_at, side_from, entry_at, entries_from, count_of, Sized}
use Rattle.proofbytes.specs.Reading.{place_of}
use Rattle.proofbytes.specs.Form.{judged_of, leaf_fits, beside_fits, stop_fits, fitting, entries_fit, header_fits}
use Rattle.proofbytes.specs.Form.{walk_fits, well_formed, AllFit, BesideFits, Writable}
use Rattle.proofbytes.proofs.ReadingLaws.{entry-down, entry-right, entry-pass, length-entries}
use Rattle.proofbytes.proofs.FormLaws.{leaf_cases, beside_cases, Fitting, is_down, is_right, is_pass}
use Rattle.proofbytes.proofs.FormLaws.{fitting_cases, StopFitting, stop_fitting, Headed, form_headed}
use Rattle.proofbytes.proofs.FormLaws.{form_sized}

-- FIELDS: a tag field that fits is the field of the item read, a label field that of the side
module _ (own : ℕ) (tag : List ℕ) (long : length tag ≡ 32) (fits : leaf_fits own tag ≡ true) where
  pub shown_back : shown (item_of own tag) ≡ tag
  shown_back = go (leaf_cases own tag fits)
    where
      go : ((own ≡ 0) × (all_zero tag ≡ true)) ⊎ (own ≡ 1) → shown (item_of own tag) ≡ tag
      go (inl h) = rw (eq-eqb own 0 h.0) (sym (zero-true tag h.1 ∙ ap (λ n. replicate n 0) long))
      go (inr h) = rw (ne_eqb own 0 (λ q. omega arith))

  pub sent_read : Sent true (item_of own tag)
  sent_read = go (leaf_cases own tag fits)
    where
      go : ((own ≡ 0) × (all_zero tag ≡ true)) ⊎ (own ≡ 1) → Sent true (item_of own tag)
      go (inl h) = inl (h.0, rw (eq-eqb own 0 h.0))
      go (inr h) = inr (h, rw (ne_eqb own 0 (λ q. omega arith)) long)

module _ (b : Beside) (long : length b.label ≡ 32) (fits : beside_fits b.rank b.label ≡ true) where
  pub side_back : label_field (side_from b) ≡ b.label
  unfolding side_from
  side_back = go (beside_cases b.rank b.label fits)
    where
      go : ((b.rank ≡ 0) × (all_zero b.label ≡ true)) ⊎ ((1 ≤ b.rank) × (b.rank ≤ 4096))
          → label_field (side_from b) ≡ b.label
      go (inl h) = rw (eq-eqb b.rank 0 h.0) (sym (zero-true b.label h.1 ∙ ap (λ n. replicate n 0) long))
      go (inr h) = rw (ne_eqb b.rank 0 (λ q. omega arith))

  pub beside_read : BesideFits (side_from b)
  unfolding side_from
  beside_read = go (beside_cases b.rank b.label fits)
    where
      go : ((b.rank ≡ 0) × (all_zero b.label ≡ true)) ⊎ ((1 ≤ b.rank) × (b.rank ≤ 4096)) → BesideFits (side_from b)
      go (inl h) = inl (h.0, rw (eq-eqb b.rank 0 h.0))
      go (inr h) = inr (h.0, h.1, rw (ne_eqb b.rank 0 (λ q. omega arith)) long)

-- THE RULES KEPT, whatever the elements of s are
pub fields-length : (s : List ℕ) (i : ℕ) → at i + 38 ≤ length s → length (fields_at s i).bytes ≡ 32
unfolding fields_at
fields-length s i room = length-part s (at i + 6) 32 (omega arith)

pub beside-length : (s : List ℕ) (k : ℕ) → at k + 74 ≤ length s → length (beside_at s k).label ≡ 32
unfolding beside_at
beside-length s k room = length-part s (at k + 42) 32 (omega arith)

record Ruled (s : List ℕ) (i n most : ℕ) : Type 0 where
  levels : Falls most (entries_from s i n)
  entries : AllFit (entries_from s i n)

ruled_more : (s : List ℕ) (i n most next : ℕ) → at i + 38 ≤ length s → Fitting (fields_at s i) most next
    → Ruled s (suc i) n next → Ruled s i (suc n) most
unfolding entries_from
ruled_more s i n most next room (is_down k a b c d e g) r =
    let p : pred (fields_at s i).level ≡ next = omega arith in
    let z = entry-down (fields_at s i) k in
    record { levels = rw z (a, c, rw p r.levels); entries = rw z ((d, e, fields-length s i room), r.entries) }
ruled_more s i n most next room (is_right k a b c d e) r =
    let z = entry-right (fields_at s i) (λ q. omega arith) (λ q. omega arith) in
    record { levels = rw z (a, c, rw e r.levels); entries = rw z ((d, fields-length s i room), r.entries) }
ruled_more s i n most next room (is_pass k l d e) r =
    let z = entry-pass (fields_at s i) (λ q. omega arith) l in
    record {
      levels = rw z (rw (← e) at r.levels);
      entries = rw z
          (sent_read _ _ (fields-length s i room) d, r.entries);
    }

-- an entry that fits, and those after it
fitting_next : (s : List ℕ) (i n most : ℕ) → entries_fit s i (suc n) most ≡ true
    → (next : ℕ) × Fitting (fields_at s i) most next × (entries_fit s (suc i) n next ≡ true)
unfolding entries_fit
fitting_next s i n most e = go (judged_of (fields_at s i) most) refl e
  where
    go : (x : Option ℕ) → judged_of (fields_at s i) most ≡ x → fitting x (λ next. entries_fit s (suc i) n next) ≡ true
        → (next : ℕ) × Fitting (fields_at s i) most next × (entries_fit s (suc i) n next ≡ true)
    go None j f = never cc
    go (Some next) j f = (next, fitting_cases (fields_at s i) most next j, f)

ruled : (s : List ℕ) (n i most : ℕ) → at (i + n) ≤ length s → entries_fit s i n most ≡ true → Ruled s i n most
unfolding entries_from
ruled s zero i most room e = record { levels = tt; entries = tt }
ruled s (suc n) i most room e =
    let f = fitting_next s i n most e in
    ruled_more s i n most f.0 (omega (arith, add-one n)) f.1
    (ruled s n (suc i) f.0 (omega (arith, add-one i, add-one n)) f.2)

-- ONE ENTRY, and the first fields of a stop: 38 bytes
module _ (s : List ℕ) (bytes : Bytes s) (i : ℕ) (room : at i + 38 ≤ length s) where
  pub fields-part : (fields_at s i).kind ∷ (fields_at s i).level ∷ (be 4 (fields_at s i).number ++ (fields_at s i).bytes)
      ≡ part s (at i) 38
  unfolding fields_at
  fields-part =
      let two : suc (at i) ≡ at i + 1 = omega (arith, add-one (at i)) in
      let three : suc (at i + 1) ≡ at i + 2 = omega (arith, add-one (at i + 1)) in
      let six : at i + 2 + 4 ≡ at i + 6 = omega arith in
      sym (part-cons s (at i) 37 (omega arith)
      ∙ ap (λ r. get_or s (at i) 0 ∷ r) (ap (λ a. part s a 37) two ∙ part-cons s (at i + 1) 36 (omega arith)
      ∙ ap (λ r. get_or s (at i + 1) 0 ∷ r) (ap (λ a. part s a 36) three ∙ part-add s (at i + 2) 4 32
      ∙ ap₂ (λ x y. x ++ y) (sym (write_back 4 s (at i + 2) bytes (omega arith))) (ap (λ a. part s a 32) six))))

  pub entry_back : (most next : ℕ) → Fitting (fields_at s i) most next → entry_bytes (entry_at s i) ≡ part s (at i) 38
  unfolding field_bytes
  entry_back most next (is_down k a b c d f g) = rw (entry-down (fields_at s i) k, ← fields-part, k)
  entry_back most next (is_right k a b c d f) =
      rw (entry-right (fields_at s i) (λ q. omega arith) (λ q. omega arith), ← fields-part, k)
  entry_back most next (is_pass k l f g) =
      rw (
        entry-pass (fields_at s i) (λ q. omega arith) l,
        ← fields-part,
        k,
        l,
        shown_back _ _
            (fields-length s i room) f,
      )

-- THE STOP: 74 bytes
module _ (s : List ℕ) (bytes : Bytes s) (k : ℕ) (room : at k + 74 ≤ length s) where
  beside-part : be 4 (beside_at s k).rank ++ (beside_at s k).label ≡ part s (at k + 38) 36
  unfolding beside_at
  beside-part =
      let over : at k + 38 + 4 ≡ at k + 42 = omega arith in
      sym (part-add s (at k + 38) 4 32
      ∙ ap₂ (λ x y. x ++ y) (sym (write_back 4 s (at k + 38) bytes (omega arith))) (ap (λ a. part s a 32) over))

  pub stop_back : StopFitting (fields_at s k) (beside_at s k)
      → stop_bytes (item_of (fields_at s k).number (fields_at s k).bytes) (side_from (beside_at s k)) ≡ part s (at k) 74
  unfolding side_from field_bytes stop_fields
  stop_back f =
      let own = shown_back _ _ (fields-length s k (omega arith)) f.leaf in
      let side = side_back (beside_at s k) (beside-length s k room) f.side in
      rw (own, side, beside-part)
      (ap₂ (λ x y. (x ∷ y ∷ (be 4 (fields_at s k).number ++ (fields_at s k).bytes)) ++ part s (at k + 38) 36)
      (sym f.kind) (sym f.level)
      ∙ ap (λ r. r ++ part s (at k + 38) 36) (fields-part s bytes k (omega arith))
      ∙ sym (part-add s (at k) 38 36))

-- ENTRIES, all of them and each by itself
module _ (s : List ℕ) (bytes : Bytes s) where
  entries_back : (n i most : ℕ) → at (i + n) ≤ length s → entries_fit s i n most ≡ true
      → entries_bytes (entries_from s i n) ≡ part s (at i) (38 * n)
  unfolding entries_from entries_bytes
  entries_back zero i most room e =
      let z : 38 * 0 ≡ 0 = omega arith in sym (ap (part s (at i)) z ∙ part_none s (at i))
  entries_back (suc n) i most room e =
      let f = fitting_next s i n most e in
      let size : 38 + 38 * n ≡ 38 * suc n = omega (arith, add-one n) in
      let next : at (suc i) ≡ at i + 38 = omega (arith, add-one i) in
      ap₂ (λ x y. x ++ y) (entry_back s bytes i (omega (arith, add-one n)) most f.0 f.1)
      (entries_back n (suc i) f.0 (omega (arith, add-one i, add-one n)) f.2 ∙ ap (λ a. part s a (38 * n)) next)
      ∙ sym (part-add s (at i) 38 (38 * n)) ∙ ap (part s (at i)) size

  one_back : (n i most j : ℕ) → at (i + n) ≤ length s → entries_fit s i n most ≡ true → j < n
      → entry_bytes (entry_at s (i + j)) ≡ part s (at (i + j)) 38
  one_back zero i most j room e h = absurd (omega arith)
  one_back (suc n) i most zero room e h =
      let f = fitting_next s i n most e in
      let z : i + 0 ≡ i = omega arith in
      rw z (entry_back s bytes i (omega (arith, add-one n)) most f.0 f.1)
  one_back (suc n) i most (suc j) room e h =
      let f = fitting_next s i n most e in
      let z : i + suc j ≡ suc i + j = omega (arith, add-one i, add-one j) in
      rw z (one_back n (suc i) f.0 j (omega (arith, add-one i, add-one n)) f.2
      (omega (arith, add-one j, add-one n)))

-- THE WHOLE
module _ (s : List ℕ) (formed : well_formed s ≡ true) where
  headed : Headed s
  headed = form_headed s formed

  sized : Sized s
  sized = form_sized s formed

  walks : (entries_fit s 0 (count_of s) 15 ≡ true) × (stop_fits (fields_at s (count_of s)) (beside_at s (count_of s)) ≡ true)
  unfolding well_formed walk_fits
  walks = both _ _ (both (header_fits s) _ formed).1

  stop_read : StopFitting (fields_at s (count_of s)) (beside_at s (count_of s))
  stop_read = stop_fitting _ _ walks.1

  stop_room : at (count_of s) + 74 ≤ length s
  stop_room = omega (arith, sized.long)

  -- what is read keeps the rules
  pub formed_writable : Writable (place_of s)
  formed_writable =
      let r = ruled s (count_of s) 0 15 (omega (arith, sized.long)) walks.0 in
      record {
        few = omega (arith, length-entries s 0 (count_of s), sized.few);
        levels = r.levels;
        entries = r.entries;
        stop = sent_read _ _ (fields-length s (count_of s) (omega (arith, stop_room))) stop_read.leaf;
        side = beside_read (beside_at s (count_of s)) (beside-length s (count_of s) stop_room) stop_read.side;
      }

  -- each entry's bytes are the entry's
  pub entry_written : Bytes s → (j : ℕ) → j < count_of s → entry_bytes (entry_at s j) ≡ part s (at j) 38
  entry_written bytes j h =
      let z : 0 + j ≡ j = omega arith in
      rw z at (one_back s bytes (count_of s) 0 15 j (omega (arith, sized.long)) walks.0 h)

  -- what is read writes back
  pub written_back : Bytes s → proof_bytes (place_of s) ≡ s
  unfolding header_bytes proof_bytes
  written_back bytes =
      let k = count_of s in
      let stated : 38 * length (entries_from s 0 k) + 74 ≡ number_at 2 s 1 =
      omega (arith, length-entries s 0 k, sized.long, headed.stated) in
      let first : at 0 ≡ 1 + 2 = omega arith in
      let last : at k ≡ 1 + 2 + 38 * k = omega arith in
      let size : 1 + (2 + (38 * k + 74)) ≡ length s = omega (arith, sized.long) in
      let all : entries_bytes (entries_from s 0 k) ≡ part s (at 0) (38 * k) =
      entries_back s bytes k 0 15 (omega (arith, sized.long)) walks.0 in
      let body : entries_bytes (entries_from s 0 k) ++ stop_bytes (place_of s).item (place_of s).side
      ≡ part s (1 + 2) (38 * k + 74) =
      ap₂ (λ x y. x ++ y) (all ∙ ap (λ a. part s a (38 * k)) first)
      (stop_back s bytes k stop_room stop_read ∙ ap (λ a. part s a 74) last)
      ∙ sym (part-add s (1 + 2) (38 * k) 74) in
      let rest : be 2 (38 * length (entries_from s 0 k) + 74) ++
      (entries_bytes (entries_from s 0 k) ++ stop_bytes (place_of s).item (place_of s).side)
      ≡ part s 1 (2 + (38 * k + 74)) =
      ap₂ (λ x y. x ++ y) (ap (be 2) stated ∙ write_back 2 s 1 bytes (omega (arith, sized.long))) body
      ∙ sym (part-add s 1 2 (38 * k + 74)) in
      ap₂ (λ (x : ℕ) (y : List ℕ). x ∷ y) (sym headed.version) rest
      ∙ sym (part-cons s 0 (2 + (38 * k + 74)) (omega (arith, sized.long)))
      ∙ ap (part s 0) (sym (add-one (2 + (38 * k + 74))) ∙ omega (arith, size)) ∙ part_all s

-- READING IS ONE-TO-ONE
pub read_one_to_one : (s t : List ℕ) → Bytes s → Bytes t → well_formed s ≡ true → well_formed t ≡ true → place_of s
    ≡ place_of t → s ≡ t
read_one_to_one s t bs bt fs ft e = sym (written_back s fs bs) ∙ ap proof_bytes e ∙ written_back t ft bt

-- A PATH THAT KEEPS THE RULES OF THE PROOF SECTION keeps the model's
leaves_fit : (f : Bool) (p : List (Entry Side)) (c : Item) → AllFit p → Sent true c → leaves.Fits Sent f p c
leaves_fit f [] c k s = s
leaves_fit f (down l t ∷ p) c k s = leaves_fit f p c k.1 s
leaves_fit f (right l t ∷ p) c k s = leaves_fit false p c k.1 s
leaves_fit f (pass d ∷ p) c k s = (k.0, leaves_fit false p c k.1 s)

pub writable_formed : (z : Place Side) → Writable z → WellFormed Sent most_height z
writable_formed z w = record {
  leaves = leaves_fit true z.entries z.item w.entries w.stop;
  levels = w.levels;
}
