-- WHAT IS SPELLED OUT IS JOINED AGAIN: bytes that keep the form are the joint proof of the proofs they are spelled out as, so that these
-- have no other. Piece by piece, the bytes joined are what is left of s.
-- Assumes nothing.
use Prim.Native.Nat.{ℕ, zero, suc, ◌+◌, ◌-◌, ◌*◌, ◌≤◌}
use mathlib.Core.Path.{◌≡◌, refl, sym, ap, ap₂, ◌∙◌}
use mathlib.Core.Bool.{true}
use mathlib.Core.List.{List, [], ◌∷◌, ◌++◌, append_assoc}
use native.Mathlib.Omega.{arith}
use native.Mathlib.Numerals.{add-one}
use lib.ListN.{length, get_or, take, drop, length-drop, take-append-drop}
use lib.Seq.{length-take-le, drop_at, drop-cons, drop-drop, drop-length}
use borrow.Author.Tests.{leb-true, eqb-true}
use Rattle.skiplist.proofs.Cases.{both}
use Rattle.octets.specs.Numbers.{be, number_at, Bytes}
use Rattle.octets.specs.Runs.{part}
use Rattle.octets.proofs.NumberLaws.{write_back}
use Rattle.octets.proofs.PartLaws.{part_none, part-add}
use Rattle.jointbytes.specs.Spelling.{joined, common, later_bytes, body_bytes, joint_head, joint_bytes}
use Rattle.jointbytes.specs.Reading.{piece_of, stop_at, end_of, stop_stands, records_from, spelled_entries, proof_of}
use Rattle.jointbytes.specs.Form.{head_fits, shares_most, later_fit, joint_fits}
use Rattle.jointbytes.specs.Proper.{proofs_of}
use Rattle.jointbytes.proofs.CommonLaws.{common_left}
use Rattle.jointbytes.proofs.Respelled.{length-proofs}

-- a part, and what is left behind it
part-drop : (s : List ℕ) (a k : ℕ) → part s a k ++ drop (a + k) s ≡ drop a s
unfolding part
part-drop s a k = rw (← drop-drop k a s) (take-append-drop k (drop a s))

pub joined-records : (s : List ℕ) (n a : ℕ) → joined (records_from s a n) ≡ part s a (38 * n)
unfolding joined records_from
joined-records s zero a = let e : 38 * 0 ≡ 0 = omega arith in sym (ap (part s a) e ∙ part_none s a)
joined-records s (suc n) a =
    let e : 38 + 38 * n ≡ 38 * suc n = omega (arith, add-one n) in
    ap (λ r. part s a 38 ++ r) (joined-records s n (a + 38)) ∙ sym (part-add s a 38 (38 * n)) ∙ ap (part s a) e

-- WHAT THE FORM SAYS, piece by piece
pub record Headed (m : ℕ) (s : List ℕ) : Type 0 where
  pub long : 6 ≤ length s
  pub version : get_or s 0 0 ≡ 1
  pub stated : number_at 4 s 1 ≡ length s - 5
  pub number : get_or s 5 0 ≡ m

pub headed : (m : ℕ) (s : List ℕ) → head_fits m s ≡ true → Headed m s
unfolding head_fits
headed m s e =
    let a = both _ _ e in
    let b = both _ _ a.1 in
    let c = both _ _ b.1 in
    record {
      long = leb-true 6 (length s) a.0;
      version = eqb-true (get_or s 0 0) 1 b.0;
      stated = eqb-true (number_at 4 s 1) (length s - 5) c.0;
      number = eqb-true (get_or s 5 0) m c.1;
    }

pub head_long : (m : ℕ) (s : List ℕ) → head_fits m s ≡ true → 6 ≤ length s
head_long m s e = (headed m s e).long

pub record Formed (m : ℕ) (s : List ℕ) : Type 0 where
  pub head : Headed m s
  pub first : stop_stands s (piece_of s 0) ≡ true
  pub later : later_fit s 0 (m - 1) ≡ true

pub formed : (m : ℕ) (s : List ℕ) → joint_fits m s ≡ true → Formed m s
unfolding joint_fits
formed m s e =
    let a = both _ _ e in
    let b = both _ _ a.1 in
    record { head = headed m s a.0; first = b.0; later = b.1 }

pub record Followed (s : List ℕ) (i n : ℕ) : Type 0 where
  pub room : end_of (piece_of s i) + 2 ≤ length s
  pub stands : stop_stands s (piece_of s (suc i)) ≡ true
  pub most : (piece_of s (suc i)).shared ≡ common (spelled_entries s i) (spelled_entries s (suc i))
  pub later : later_fit s (suc i) n ≡ true

pub followed : (s : List ℕ) (i n : ℕ) → later_fit s i (suc n) ≡ true → Followed s i n
unfolding later_fit shares_most
followed s i n e =
    let a = both _ _ e in
    let b = both _ _ a.1 in
    let c = both _ _ b.1 in
    record { room = leb-true _ _ a.0; stands = b.0; most = eqb-true _ _ c.0; later = c.1 }

pub ended : (s : List ℕ) (i : ℕ) → later_fit s i 0 ≡ true → end_of (piece_of s i) ≡ length s
unfolding later_fit
ended s i e = eqb-true _ _ e

-- the shared entries are no more than there are, and stand before the own ones
module _ (s : List ℕ) (i n : ℕ) (f : Followed s i n) where
  pub shared_few : (piece_of s (suc i)).shared ≤ length (spelled_entries s i)
  shared_few = omega (arith, f.most, common_left (spelled_entries s i) (spelled_entries s (suc i)))

  pub own_entries : drop (piece_of s (suc i)).shared (spelled_entries s (suc i))
      ≡ records_from s (piece_of s (suc i)).from (piece_of s (suc i)).own
  unfolding spelled_entries
  own_entries =
      drop_at (take (piece_of s (suc i)).shared (spelled_entries s i)) _ (piece_of s (suc i)).shared
      (length-take-le (piece_of s (suc i)).shared (spelled_entries s i) shared_few)

-- a piece's own entries and its stop, and what is left behind them
piece-drop : (s : List ℕ) (i : ℕ) → joined (records_from s (piece_of s i).from (piece_of s i).own)
    ++ (part s (stop_at (piece_of s i)) 74 ++ drop (end_of (piece_of s i)) s) ≡ drop (piece_of s i).from s
piece-drop s i =
    rw (joined-records s (piece_of s i).own (piece_of s i).from, part-drop s (stop_at (piece_of s i)) 74)
    (part-drop s (piece_of s i).from (38 * (piece_of s i).own))

module _ (s : List ℕ) (bytes : Bytes s) where
  -- a shared number, and what is left behind it
  number_drop : (i : ℕ) → end_of (piece_of s i) + 2 ≤ length s
      → be 2 (piece_of s (suc i)).shared ++ drop (piece_of s (suc i)).from s ≡ drop (end_of (piece_of s i)) s
  unfolding piece_of
  number_drop i room =
      ap (λ x. x ++ drop (end_of (piece_of s i) + 2) s) (write_back 2 s (end_of (piece_of s i)) bytes room)
      ∙ part-drop s (end_of (piece_of s i)) 2

  -- ALL LATER PIECES: what is left behind the i-th
  later-drop : (n i : ℕ) → later_fit s i n ≡ true
      → later_bytes (proof_of s i) (proofs_of s (suc i) n) ≡ drop (end_of (piece_of s i)) s
  unfolding later_bytes proofs_of
  later-drop zero i e = sym (ap (λ a. drop a s) (ended s i e) ∙ drop-length s)
  later-drop (suc n) i e =
      let f = followed s i n e in
      rw (← f.most, own_entries s i n f, later-drop n (suc i) f.later, piece-drop s (suc i)) (number_drop i f.room)

  -- THE WHOLE
  first_drop : drop (piece_of s 0).from s ≡ drop 6 s
  unfolding piece_of
  first_drop = refl

  body-drop : (n : ℕ) → later_fit s 0 n ≡ true → body_bytes (proofs_of s 0 (suc n)) ≡ drop 6 s
  unfolding body_bytes proofs_of spelled_entries
  body-drop n e = rw (later-drop n 0 e) (piece-drop s 0 ∙ first_drop)

  head_drop : (m : ℕ) → Headed m s → joint_head m (1 + length (drop 6 s)) ++ drop 6 s ≡ s
  unfolding joint_head
  head_drop m h =
      let size : 1 + length (drop 6 s) ≡ number_at 4 s 1 = omega (arith, length-drop 6 s, h.stated, h.long) in
      let five : (m ∷ []) ++ drop 6 s ≡ drop 5 s =
      rw (← h.number) (sym (drop-cons s 5 0 (omega (arith, h.long)))) in
      let four : be 4 (1 + length (drop 6 s)) ++ ((m ∷ []) ++ drop 6 s) ≡ drop 1 s =
      ap₂ (λ x y. x ++ y) (ap (be 4) size ∙ write_back 4 s 1 bytes (omega (arith, h.long))) five ∙ part-drop s 1 4 in
      ap₂ (λ (x : ℕ) (y : List ℕ). x ∷ y) (sym h.version)
      (append_assoc (be 4 (1 + length (drop 6 s))) (m ∷ []) (drop 6 s) ∙ four)
      ∙ sym (drop-cons s 0 0 (omega (arith, h.long)))

  pub rejoined : (m : ℕ) → 1 ≤ m → joint_fits m s ≡ true → joint_bytes (proofs_of s 0 m) ≡ s
  unfolding joint_bytes
  rejoined zero h e = absurd (omega arith)
  rejoined (suc n) h e =
      let f = formed (suc n) s e in
      let one : suc n - 1 ≡ n = omega (arith, add-one n) in
      rw (body-drop n (rw one at f.later), length-proofs s 0 (suc n)) (head_drop (suc n) f.head)

-- the joint proof of given proofs is the only one
pub one_joint : (s t : List ℕ) (m : ℕ) → Bytes s → Bytes t → 1 ≤ m → joint_fits m s ≡ true → joint_fits m t ≡ true
    → proofs_of s 0 m ≡ proofs_of t 0 m → s ≡ t
one_joint s t m bs bt h fs ft e = sym (rejoined s bs m h fs) ∙ ap joint_bytes e ∙ rejoined t bt m h ft
