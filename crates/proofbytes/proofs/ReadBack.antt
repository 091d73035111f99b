-- WHAT IS WRITTEN IS READ BACK: the bytes of a path that keeps the rules are well formed, and are read as that path.
-- Assumes nothing.
use Prim.Native.Nat.{ℕ, suc, pred, ◌+◌, ◌-◌, ◌*◌, ◌≤◌, ◌<◌, ◌%◌}
use mathlib.Core.Path.{◌≡◌, refl, sym, ap, ap₂, ◌∙◌}
use mathlib.Core.Logic.{inl, inr}
use mathlib.Core.Bool.{true}
use mathlib.Core.List.{List, [], ◌∷◌, ◌++◌, append_assoc, append-nil}
use native.Mathlib.Omega.{arith}
use native.Mathlib.Nat.{add-zero}
use native.Mathlib.Numerals.{add-one}
use lib.ListN.{length, get_or, length-append}
use lib.Seq.{get_or-append-add}
use borrow.Author.Tests.{eq-eqb, ne_eqb, le-leb}
use Rattle.octets.specs.Numbers.{be, number_at}
use Rattle.octets.specs.Runs.{part}
use Rattle.octets.proofs.NumberLaws.{read_middle}
use Rattle.octets.proofs.PartLaws.{part_middle}
use Rattle.octets.proofs.RunLaws.{zero_zeros}
use Rattle.skiplist.specs.Row.{Item}
use Rattle.skiplist.specs.Entry.{Entry, down, right, pass, Place, Falls}
use Rattle.skiplist.specs.Label.{Side}
use Rattle.skiplist.specs.Blocks.{Sent, item_of, shown}
use Rattle.proofbytes.specs.declared.read.Fields.{Fields}
use Rattle.proofbytes.specs.declared.read.Beside.{Beside}
use Rattle.std.specs.Prelude.{Some}
use Rattle.proofbytes.specs.Writing.{header_bytes, field_bytes, entry_bytes, entries_bytes, label_field, stop_fields}
use Rattle.proofbytes.specs.Writing.{stop_bytes, proof_bytes}
use Rattle.proofbytes.specs.Reading.{at, fields_at, beside_at, entry_of, side_from, entry_at, entries_from, count_of}
use Rattle.proofbytes.specs.Reading.{place_of}
use Rattle.proofbytes.specs.Form.{down_of, right_of, leaf_fits, pass_of, judged_of, beside_fits, stop_fits}
use Rattle.proofbytes.specs.Form.{entries_fit, header_fits, walk_fits, well_formed, EntryFits, AllFit, BesideFits}
use Rattle.proofbytes.specs.Form.{Writable}
use Rattle.proofbytes.proofs.ReadingLaws.{entry-down, entry-right, entry-pass}

abbrev fields_of : ℕ → ℕ → ℕ → List ℕ → Fields
fields_of k l n b = record { kind = k; level = l; number = n; bytes = b }

-- ONE RECORD OF BYTES: kind, level, number, 32 bytes, behind a front
module _ (s front : List ℕ) (a k l n : ℕ) (b rest : List ℕ) (size : length front ≡ a)
    (is : s ≡ front ++ (k ∷ l ∷ (be 4 n ++ (b ++ rest)))) where
  placed_at : (j : ℕ) → get_or s (a + j) 0 ≡ get_or (k ∷ l ∷ (be 4 n ++ (b ++ rest))) j 0
  placed_at j = rw (is, ← size) (get_or-append-add front (k ∷ l ∷ (be 4 n ++ (b ++ rest))) j 0)

  kind_of : get_or s a 0 ≡ k
  kind_of = ap (λ x. get_or s x 0) (sym (add-zero a)) ∙ placed_at 0

  level_of : get_or s (a + 1) 0 ≡ l
  level_of = placed_at 1

  number_of : n < 4294967296 → number_at 4 s (a + 2) ≡ n
  number_of h =
      ap (λ x. number_at 4 x (a + 2)) (is ∙ sym (append_assoc front (k ∷ l ∷ []) (be 4 n ++ (b ++ rest))))
      ∙ read_middle 4 n (front ++ (k ∷ l ∷ [])) (b ++ rest) (a + 2) (length-append front (k ∷ l ∷ []) ∙ omega arith) h

  bytes_of : length b ≡ 32 → part s (a + 6) 32 ≡ b
  bytes_of h =
      ap (λ x. part x (a + 6) 32) (is ∙ sym (append_assoc front (k ∷ l ∷ be 4 n) (b ++ rest)))
      ∙ part_middle (front ++ (k ∷ l ∷ be 4 n)) b rest (a + 6) 32 (length-append front (k ∷ l ∷ be 4 n) ∙ omega arith) h

  -- the rest stands behind it
  behind : s ≡ (front ++ (k ∷ l ∷ (be 4 n ++ b))) ++ rest
  behind =
      is ∙ ap (λ x. front ++ (k ∷ l ∷ x)) (sym (append_assoc (be 4 n) b rest))
      ∙ sym (append_assoc front (k ∷ l ∷ (be 4 n ++ b)) rest)

  front_size : length b ≡ 32 → length (front ++ (k ∷ l ∷ (be 4 n ++ b))) ≡ a + 38
  front_size h = length-append front (k ∷ l ∷ (be 4 n ++ b)) ∙ omega (arith, length-append (be 4 n) b)

fields_are : (s front : List ℕ) (i k l n : ℕ) (b rest : List ℕ) → length front ≡ at i → s
    ≡ front ++ (k ∷ l ∷ (be 4 n ++ (b ++ rest)))
    → n < 4294967296 → length b ≡ 32 → fields_at s i ≡ fields_of k l n b
unfolding fields_at
fields_are s front i k l n b rest size is h w = λ j. record {
  kind = kind_of s front (at i) k l n b rest size is j;
  level = level_of s front (at i) k l n b rest size is j;
  number = number_of s front (at i) k l n b rest size is h j;
  bytes = bytes_of s front (at i) k l n b rest size is w j;
}

-- ITEMS AND SIDES come back, and their fields keep the rules
module _ (c : Item) where
  pub item_back : Sent true c → item_of c.own (shown c) ≡ c
  item_back (inl h) =
      let q : (item_of c.own (shown c)).third ≡ c.third = rw (eq-eqb c.own 0 h.0) (sym h.1) in
      λ i. record { own = c.own; third = q i }
  item_back (inr h) =
      let q : (item_of c.own (shown c)).third ≡ c.third = rw (ne_eqb c.own 0 (λ q. omega (arith, h.0))) refl in
      λ i. record { own = c.own; third = q i }

  pub own_small : Sent true c → c.own ≤ 1
  own_small (inl h) = omega (arith, h.0)
  own_small (inr h) = omega (arith, h.0)

  pub shown-length : Sent true c → length (shown c) ≡ 32
  shown-length (inl h) = rw (eq-eqb c.own 0 h.0)
  shown-length (inr h) = rw (ne_eqb c.own 0 (λ q. omega (arith, h.0))) h.1

  sent_fits : Sent true c → leaf_fits c.own (shown c) ≡ true
  unfolding leaf_fits
  sent_fits (inl h) = rw (eq-eqb c.own 0 h.0) (zero_zeros 32)
  sent_fits (inr h) = rw (ne_eqb c.own 0 (λ q. omega (arith, h.0)), eq-eqb c.own 1 h.0)

module _ (r : Side) where
  abbrev beside_of : Beside
  beside_of = record { rank = r.rank; label = label_field r }

  pub side_back : BesideFits r → side_from beside_of ≡ r
  unfolding side_from
  side_back (inl h) =
      let q : (side_from beside_of).label ≡ r.label = rw (eq-eqb r.rank 0 h.0) (sym h.1) in
      λ i. record { rank = r.rank; label = q i }
  side_back (inr h) =
      let q : (side_from beside_of).label ≡ r.label = rw (ne_eqb r.rank 0 (λ q. omega (arith, h.0))) refl in
      λ i. record { rank = r.rank; label = q i }

  side_small : BesideFits r → r.rank ≤ 4096
  side_small (inl h) = omega (arith, h.0)
  side_small (inr h) = h.1

  side_length : BesideFits r → length (label_field r) ≡ 32
  side_length (inl h) = rw (eq-eqb r.rank 0 h.0)
  side_length (inr h) = rw (ne_eqb r.rank 0 (λ q. omega (arith, h.0))) h.2

  side_fits_beside : BesideFits r → beside_fits r.rank (label_field r) ≡ true
  unfolding beside_fits
  side_fits_beside (inl h) = rw (eq-eqb r.rank 0 h.0) (zero_zeros 32)
  side_fits_beside (inr h) = rw (ne_eqb r.rank 0 (λ q. omega (arith, h.0)), le-leb r.rank 4096 h.1)

-- ENTRIES that keep the rules fit
down_fits : (l n : ℕ) (b : List ℕ) (most : ℕ) → 1 ≤ l → l ≤ 15 → l ≤ most → 1 ≤ n → n ≤ 4096
    → judged_of (fields_of 0 l n b) most ≡ Some (l - 1)
unfolding judged_of down_of
down_fits l n b most a c d e f = rw (le-leb 1 l a, le-leb l 15 c, le-leb 1 n e, le-leb n 4096 f, le-leb l most d)

right_fits : (l n : ℕ) (b : List ℕ) (most : ℕ) → 1 ≤ l → l ≤ 15 → l ≤ most → n ≤ 4096
    → judged_of (fields_of 1 l n b) most ≡ Some l
unfolding judged_of right_of
right_fits l n b most a c d f = rw (ne_eqb l 0 (λ q. omega arith), le-leb l 15 c, le-leb n 4096 f, le-leb l most d)

pass_fits : (c : Item) (most : ℕ) → Sent true c → judged_of (fields_of 1 0 c.own (shown c)) most ≡ Some 0
unfolding judged_of pass_of
pass_fits c most k = rw (sent_fits c k)

-- what is read from the i-th entry on, where p, c and r are written there
pub record ReadBack (s : List ℕ) (c : Item) (r : Side) (i : ℕ) (p : List (Entry Side)) (most : ℕ) : Type 0 where
  pub fit : entries_fit s i (length p) most ≡ true
  pub entries : entries_from s i (length p) ≡ p
  pub stop : fields_at s (i + length p) ≡ fields_of 2 0 c.own (shown c)
  pub side : beside_at s (i + length p) ≡ beside_of r

module _ (s : List ℕ) (c : Item) (r : Side) (kc : Sent true c) (kr : BesideFits r) where
  read-stop : (front : List ℕ) (i most : ℕ) → length front ≡ at i → s ≡ front ++ stop_bytes c r
      → ReadBack s c r i [] most
  unfolding entries_fit entries_from beside_at entries_bytes field_bytes stop_fields
  read-stop front i most size written = record {
    fit = refl;
    entries = refl;
    stop = ap (fields_at s) none ∙ fields_are s front i 2 0 c.own (shown c) rest size is
        (omega (arith, own_small c kc)) (shown-length c kc);
    side = ap (beside_at s) none ∙ (λ j. record { rank = rank_is j; label = label_is j });
  }
    where
      none : i + 0 ≡ i
      none = add-zero i

      rest : List ℕ
      rest = be 4 r.rank ++ label_field r

      is : s ≡ front ++ (2 ∷ 0 ∷ (be 4 c.own ++ (shown c ++ rest)))
      is = written ∙ ap (λ x. front ++ (2 ∷ 0 ∷ x)) (append_assoc (be 4 c.own) (shown c) rest)

      before : List ℕ
      before = front ++ (2 ∷ 0 ∷ (be 4 c.own ++ shown c))

      is_before : s ≡ before ++ (be 4 r.rank ++ label_field r)
      is_before = behind s front (at i) 2 0 c.own (shown c) rest size is

      before_size : length before ≡ at i + 38
      before_size = front_size s front (at i) 2 0 c.own (shown c) rest size is (shown-length c kc)

      rank_is : number_at 4 s (at i + 38) ≡ r.rank
      rank_is = ap (λ x. number_at 4 x (at i + 38)) is_before
          ∙ read_middle 4 r.rank before (label_field r) (at i + 38) before_size (omega (arith, side_small r kr))

      label_is : part s (at i + 42) 32 ≡ label_field r
      label_is = ap (λ x. part x (at i + 42) 32)
          (is_before ∙ sym (append_assoc before (be 4 r.rank) (label_field r))
          ∙ ap (λ x. (before ++ be 4 r.rank) ++ x) (sym (append-nil (label_field r))))
          ∙ part_middle (before ++ be 4 r.rank) (label_field r) [] (at i + 42) 32
          (length-append before (be 4 r.rank) ∙ omega (arith, before_size)) (side_length r kr)

  -- one entry before what is read back
  before : (e : Entry Side) (p : List (Entry Side)) (i most next : ℕ) → entry_at s i ≡ e
      → judged_of (fields_at s i) most ≡ Some next
      → ReadBack s c r (suc i) p next → ReadBack s c r i (e ∷ p) most
  unfolding entries_fit entries_from
  before e p i most next is fits b = record {
    fit = rw fits b.fit;
    entries = ap₂ ◌∷◌ is b.entries;
    stop = ap (fields_at s) along ∙ b.stop;
    side = ap (beside_at s) along ∙ b.side;
  }
    where
      along : i + suc (length p) ≡ suc i + length p
      along = omega (arith, add-one i, add-one (length p))

  -- the bytes of an entry and of what follows it
  module _ (front : List ℕ) (i k l n : ℕ) (b : List ℕ) (p : List (Entry Side)) (size : length front ≡ at i)
      (is : s ≡ front ++ (((k ∷ l ∷ (be 4 n ++ b)) ++ entries_bytes p) ++ stop_bytes c r)) (small : n < 4294967296)
      (long : length b ≡ 32) where
    split : s ≡ front ++ (k ∷ l ∷ (be 4 n ++ (b ++ (entries_bytes p ++ stop_bytes c r))))
    split = is ∙ ap (λ x. front ++ (k ∷ l ∷ x))
        (append_assoc (be 4 n ++ b) (entries_bytes p) (stop_bytes c r)
        ∙ append_assoc (be 4 n) b (entries_bytes p ++ stop_bytes c r))

    here : fields_at s i ≡ fields_of k l n b
    here = fields_are s front i k l n b (entries_bytes p ++ stop_bytes c r) size split small long

    past : s ≡ (front ++ (k ∷ l ∷ (be 4 n ++ b))) ++ (entries_bytes p ++ stop_bytes c r)
    past = behind s front (at i) k l n b (entries_bytes p ++ stop_bytes c r) size split

    past_size : length (front ++ (k ∷ l ∷ (be 4 n ++ b))) ≡ at (suc i)
    past_size = front_size s front (at i) k l n b (entries_bytes p ++ stop_bytes c r) size split long
        ∙ omega (arith, add-one i)

  pub read_back : (p : List (Entry Side)) (front : List ℕ) (i most : ℕ) → length front ≡ at i → s
      ≡ front ++ (entries_bytes p ++ stop_bytes c r)
      → most ≤ 15 → Falls most p → AllFit p → ReadBack s c r i p most
  unfolding entries_bytes field_bytes
  read_back [] front i most size is m f k = read-stop front i most size is
  read_back (down l t ∷ p) front i most size is m f k =
      let small : t.rank < 4294967296 = omega (arith, k.0.1) in
      let e = here front i 0 l t.rank t.label p size is small k.0.2 in
      let below : pred l ≡ l - 1 = omega (arith, f.0) in
      before (down l t) p i most (l - 1) (ap entry_of e ∙ entry-down (fields_of 0 l t.rank t.label) refl)
      (ap (λ x. judged_of x most) e ∙ down_fits l t.rank t.label most f.0 (omega (arith, f.1)) f.1
      k.0.0 k.0.1)
      (read_back p (front ++ entry_bytes (down l t)) (suc i) (l - 1)
      (past_size front i 0 l t.rank t.label p size is small k.0.2)
      (past front i 0 l t.rank t.label p size is small k.0.2) (omega (arith, f.1)) (rw below at f.2)
      k.1)
  read_back (right l t ∷ p) front i most size is m f k =
      let small : t.rank < 4294967296 = omega (arith, k.0.0) in
      let e = here front i 1 l t.rank t.label p size is small k.0.1 in
      before (right l t) p i most l (ap entry_of e ∙ entry-right (fields_of 1 l t.rank t.label)
      (λ q. omega arith) (λ q. omega (arith, f.0)))
      (ap (λ x. judged_of x most) e ∙ right_fits l t.rank t.label most f.0 (omega (arith, f.1)) f.1
      k.0.0)
      (read_back p (front ++ entry_bytes (right l t)) (suc i) l
      (past_size front i 1 l t.rank t.label p size is small k.0.1)
      (past front i 1 l t.rank t.label p size is small k.0.1) (omega (arith, f.1)) f.2 k.1)
  read_back (pass d ∷ p) front i most size is m f k =
      let small : d.own < 4294967296 = omega (arith, own_small d k.0) in
      let e = here front i 1 0 d.own (shown d) p size is small (shown-length d k.0) in
      before (pass d) p i most 0 (ap entry_of e ∙ entry-pass (fields_of 1 0 d.own (shown d)) (λ q. omega arith) refl
      ∙ ap pass (item_back d k.0))
      (ap (λ x. judged_of x most) e ∙ pass_fits d most k.0)
      (read_back p (front ++ entry_bytes (pass d)) (suc i) 0
      (past_size front i 1 0 d.own (shown d) p size is small (shown-length d k.0))
      (past front i 1 0 d.own (shown d) p size is small (shown-length d k.0)) (omega arith) f k.1)

-- LENGTHS
pub length-entry : (e : Entry Side) → EntryFits e → length (entry_bytes e) ≡ 38
unfolding field_bytes
length-entry (down l t) k = omega (arith, length-append (be 4 t.rank) t.label, k.2)
length-entry (right l t) k = omega (arith, length-append (be 4 t.rank) t.label, k.1)
length-entry (pass d) k = omega (arith, length-append (be 4 d.own) (shown d), shown-length d k)

pub length-entries_bytes : (p : List (Entry Side)) → AllFit p → length (entries_bytes p) ≡ 38 * length p
unfolding entries_bytes
length-entries_bytes [] k = omega arith
length-entries_bytes (e ∷ p) k =
    length-append (entry_bytes e) (entries_bytes p) ∙ omega
    (arith, length-entry e k.0, length-entries_bytes p k.1, add-one (length p))

pub length-stop : (c : Item) (r : Side) → Sent true c → BesideFits r → length (stop_bytes c r) ≡ 74
unfolding field_bytes stop_fields
length-stop c r kc kr =
    omega (
      arith,
      length-append (be 4 c.own ++ shown c) (be 4 r.rank ++ label_field r),
      length-append (be 4 c.own) (shown c),
      length-append (be 4 r.rank) (label_field r),
      shown-length c kc,
      side_length r kr,
    )

header_ok : (s : List ℕ) (n : ℕ) → get_or s 0 0 ≡ 1 → number_at 2 s 1 ≡ n → length s ≡ n + 3 → n ≤ 7674 → 74 ≤ n
    → (n - 74) % 38 ≡ 0 → header_fits s ≡ true
unfolding header_fits
header_ok s n a b l h g d =
    rw (
      le-leb 77 (length s) (omega arith),
      le-leb (length s) 7677 (omega arith),
      eq-eqb ((length s - 77) % 38) 0 (omega arith),
      eq-eqb (get_or s 0 0) 1 a,
      eq-eqb (number_at 2 s 1) (length s - 3) (omega arith),
    )

-- THE WHOLE
module _ (z : Place Side) (w : Writable z) where
  size : length (proof_bytes z) ≡ 77 + 38 * length z.entries
  unfolding header_bytes proof_bytes
  size = omega (
    arith,
    length-append (be 2 (38 * length z.entries + 74)) (entries_bytes z.entries ++ stop_bytes z.item z.side),
    length-append (entries_bytes z.entries) (stop_bytes z.item z.side),
    length-entries_bytes z.entries w.entries,
    length-stop z.item z.side w.stop w.side,
  )

  count : count_of (proof_bytes z) ≡ length z.entries
  count = omega (arith, size)

  stated : number_at 2 (proof_bytes z) 1 ≡ 38 * length z.entries + 74
  unfolding header_bytes proof_bytes
  stated = read_middle 2 (38 * length z.entries + 74) (1 ∷ [])
      (entries_bytes z.entries ++ stop_bytes z.item z.side) 1 refl (omega (arith, w.few))

  all_back : ReadBack (proof_bytes z) z.item z.side 0 z.entries 15
  unfolding header_bytes proof_bytes
  all_back =
      read_back (proof_bytes z) z.item z.side w.stop w.side z.entries
      (1 ∷ be 2 (38 * length z.entries + 74)) 0 15
      (omega arith) refl (omega arith) w.levels w.entries

  from_zero : 0 + length z.entries ≡ count_of (proof_bytes z)
  from_zero = omega (arith, count)

  stop_is : fields_at (proof_bytes z) (count_of (proof_bytes z)) ≡ fields_of 2 0 z.item.own (shown z.item)
  stop_is = ap (fields_at (proof_bytes z)) (sym from_zero) ∙ all_back.stop

  side_is : beside_at (proof_bytes z) (count_of (proof_bytes z)) ≡ beside_of z.side
  side_is = ap (beside_at (proof_bytes z)) (sym from_zero) ∙ all_back.side

  pub written_formed : well_formed (proof_bytes z) ≡ true
  unfolding well_formed walk_fits stop_fits header_bytes proof_bytes
  written_formed = rw (
    header_ok (proof_bytes z) (38 * length z.entries + 74) refl stated (omega (arith, size))
        (omega (arith, w.few)) (omega arith) (omega arith),
    stop_is,
    side_is,
    sent_fits z.item w.stop,
    side_fits_beside z.side w.side,
    count,
    all_back.fit,
  )

  pub written_read : place_of (proof_bytes z) ≡ z
  written_read = λ i. record {
    entries = (ap (entries_from (proof_bytes z) 0) count ∙ all_back.entries) i;
    item = (ap (λ (f : Fields). item_of f.number f.bytes) stop_is ∙ item_back z.item w.stop) i;
    side = (ap side_from side_is ∙ side_back z.side w.side) i;
  }
