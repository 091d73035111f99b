-- WHAT IS JOINED IS SPELLED OUT AGAIN: the joint proof of proofs keeps the form, and is spelled out as these proofs. Going along the
-- proofs, the bytes read so far are a front that ends where a piece ends.
-- Assumes nothing.
use Prim.Native.Nat.{ℕ, zero, suc, ◌+◌, ◌-◌, ◌≤◌, ◌<◌}
use mathlib.Core.Path.{◌≡◌, refl, sym, ap, ap₂, ◌∙◌}
use mathlib.Core.Bool.{true}
use mathlib.Core.List.{List, [], ◌∷◌, ◌++◌, append_assoc, append-nil}
use native.Mathlib.Omega.{arith}
use native.Mathlib.Numerals.{add-one}
use lib.ListN.{length, get_or, drop, length-append, take-append-drop}
use borrow.Author.Tests.{le-leb, eq-eqb}
use Rattle.octets.specs.Numbers.{be, number_at}
use Rattle.octets.proofs.NumberLaws.{length-be, read_middle}
use Rattle.jointbytes.specs.Spelling.{Raw, joined, common, later_bytes, body_bytes, joint_head, joint_bytes}
use Rattle.jointbytes.specs.Reading.{piece_of, end_of, spelled_entries, proof_of}
use Rattle.jointbytes.specs.Form.{head_fits, shares_most, later_fit, joint_fits}
use Rattle.jointbytes.specs.Proper.{EntryRecords, Proper, AllProper, proofs_of}
use Rattle.jointbytes.proofs.CommonLaws.{common_right, common-take}
use Rattle.jointbytes.proofs.RecordLaws.{Found, found}

drop_entries : (c : ℕ) (xs : List (List ℕ)) → EntryRecords xs → EntryRecords (drop c xs)
drop_entries zero xs k = k
drop_entries (suc c) [] k = tt
drop_entries (suc c) (x ∷ xs) k = drop_entries c xs k.1

-- the head of the proofs that are spelled out, and the others
pub proofs_head : (s : List ℕ) (i n : ℕ) → proofs_of s i (suc n) ≡ proof_of s i ∷ proofs_of s (suc i) n
unfolding proofs_of
proofs_head s i n = refl

pub length-proofs : (s : List ℕ) (i n : ℕ) → length (proofs_of s i n) ≡ n
unfolding proofs_of
length-proofs s i zero = refl
length-proofs s i (suc n) = ap suc (length-proofs s (suc i) n)

-- by its number
pub proofs_at : (s : List ℕ) (n i j : ℕ) (d : Raw) → j < n → get_or (proofs_of s i n) j d ≡ proof_of s (i + j)
unfolding proofs_of
proofs_at s zero i j d h = absurd (omega arith)
proofs_at s (suc n) i zero d h = let e : i ≡ i + 0 = omega arith in ap (proof_of s) e
proofs_at s (suc n) i (suc j) d h =
    let e : suc i + j ≡ i + suc j = omega (arith, add-one i, add-one j) in
    proofs_at s n (suc i) j d (omega arith) ∙ ap (proof_of s) e

-- ONE LATER PIECE: r behind q
module _ (s front : List ℕ) (q r : Raw) (rs : List Raw) (i : ℕ) (fits : Proper r) (size : length front ≡ end_of (piece_of s i))
    (is : s ≡ front ++ later_bytes q (r ∷ rs)) (before : spelled_entries s i ≡ q.entries) where
  abbrev c : ℕ
  c = common q.entries r.entries

  abbrev own : List (List ℕ)
  own = drop c r.entries

  abbrev rest : List ℕ
  rest = joined own ++ (r.stop ++ later_bytes r rs)

  is_number : s ≡ front ++ (be 2 c ++ rest)
  unfolding later_bytes
  is_number = is

  shared_is : number_at 2 s (end_of (piece_of s i)) ≡ c
  shared_is =
      ap (λ x. number_at 2 x (end_of (piece_of s i))) is_number
      ∙ read_middle 2 c front rest (end_of (piece_of s i)) size
      (omega (arith, fits.few, common_right q.entries r.entries))

  number_room : end_of (piece_of s i) + 2 ≤ length s
  number_room =
      omega (arith, ap length is_number, length-append front (be 2 c ++ rest), length-append (be 2 c) rest, length-be 2 c)

  found_next : Found s (piece_of s (suc i)) own r.stop (later_bytes r rs)
  unfolding piece_of
  found_next =
      found s (front ++ be 2 c) own r.stop (later_bytes r rs) (drop_entries c r.entries fits.entries)
      fits.stop_size_is fits.stop_kind_holds (number_at 2 s (end_of (piece_of s i))) (end_of (piece_of s i) + 2)
      (length-append front (be 2 c) ∙ omega (arith, length-be 2 c))
      (is_number ∙ sym (append_assoc front (be 2 c) rest))

  shared_next : (piece_of s (suc i)).shared ≡ c
  unfolding piece_of
  shared_next = shared_is

  entries_next : spelled_entries s (suc i) ≡ r.entries
  unfolding spelled_entries
  entries_next =
      rw (shared_next, before, found_next.records, common-take q.entries r.entries)
      (take-append-drop c r.entries)

  proof_next : proof_of s (suc i) ≡ r
  proof_next = λ j. record { entries = entries_next j; stop = found_next.last j }

  most_next : shares_most s i ≡ true
  unfolding shares_most
  most_next = eq-eqb _ _ (shared_next ∙ ap₂ common (sym before) (sym entries_next))

-- ALL LATER PIECES
ends : (front : List ℕ) (q : Raw) → front ++ later_bytes q [] ≡ front
unfolding later_bytes
ends front q = append-nil front

module _ (s : List ℕ) where
  laters : (q : Raw) (rs : List Raw) (front : List ℕ) (i : ℕ) → AllProper rs → length front ≡ end_of (piece_of s i)
      → s ≡ front ++ later_bytes q rs → spelled_entries s i ≡ q.entries
      → (proofs_of s (suc i) (length rs) ≡ rs) × (later_fit s i (length rs) ≡ true)
  unfolding later_fit proofs_of
  laters q [] front i k size is before =
      (refl, eq-eqb (end_of (piece_of s i)) (length s) (sym size ∙ sym (ap length (is ∙ ends front q))))
  laters q (r ∷ rs) front i k size is before =
      let f = found_next s front q r rs i k.0 size is before in
      let next = laters r rs f.until (suc i) k.1 f.size f.is (entries_next s front q r rs i k.0 size is before) in (
        ap₂ ◌∷◌ (proof_next s front q r rs i k.0 size is before) next.0,
        rw (
          le-leb (end_of (piece_of s i) + 2) (length s) (number_room s front q r rs i k.0 size is before),
          f.stands,
          most_next s front q r rs i k.0 size is before,
        )
            next.1,
      )

-- THE WHOLE
module _ (r : Raw) (rs : List Raw) (proper : AllProper (r ∷ rs)) where
  abbrev s : List ℕ
  s = joint_bytes (r ∷ rs)

  abbrev stated : ℕ
  stated = 1 + length (body_bytes (r ∷ rs))

  abbrev head : List ℕ
  head = joint_head (length (r ∷ rs)) stated

  head_size : length head ≡ 6
  unfolding joint_head
  head_size = refl

  split : s ≡ head ++ (joined r.entries ++ (r.stop ++ later_bytes r rs))
  unfolding joint_bytes body_bytes
  split = refl

  found_first : Found s (piece_of s 0) r.entries r.stop (later_bytes r rs)
  unfolding piece_of
  found_first =
      found s head r.entries r.stop (later_bytes r rs) proper.0.entries
      proper.0.stop_size_is proper.0.stop_kind_holds 0 6 head_size split

  entries_first : spelled_entries s 0 ≡ r.entries
  unfolding spelled_entries
  entries_first = found_first.records

  later : (proofs_of s 1 (length rs) ≡ rs) × (later_fit s 0 (length rs) ≡ true)
  later = laters s r rs found_first.until 0 proper.1 found_first.size found_first.is entries_first

  joined_head_fits : stated < 4294967296 → head_fits (length (r ∷ rs)) s ≡ true
  unfolding head_fits joint_bytes joint_head
  joined_head_fits small =
      let size : length s ≡ 6 + length (body_bytes (r ∷ rs)) = length-append head (body_bytes (r ∷ rs)) in
      let n : number_at 4 s 1 ≡ length s - 5 =
      read_middle 4 stated (1 ∷ []) (length (r ∷ rs) ∷ body_bytes (r ∷ rs)) 1 refl small ∙ omega arith in
      rw (
        le-leb 6 (length s) (omega arith),
        eq-eqb (number_at 4 s 1) (length s - 5) n,
        eq-eqb (length (r ∷ rs)) (length (r ∷ rs)) refl,
      )

  -- the length fits four bytes
  pub joined_fits : 1 + length (body_bytes (r ∷ rs)) < 4294967296 → joint_fits (length (r ∷ rs)) (joint_bytes (r ∷ rs)) ≡ true
  unfolding joint_fits
  joined_fits small =
      let one : length (r ∷ rs) - 1 ≡ length rs = omega (arith, add-one (length rs)) in
      rw (joined_head_fits small, found_first.stands, one) later.1

  pub respelled : proofs_of (joint_bytes (r ∷ rs)) 0 (length (r ∷ rs)) ≡ r ∷ rs
  unfolding proofs_of
  respelled = ap₂ ◌∷◌ (λ j. record { entries = entries_first j; stop = found_first.last j }) later.0

  -- each by its number
  pub respelled_at : (i : ℕ) (d : Raw) → i < length (r ∷ rs) → proof_of (joint_bytes (r ∷ rs)) i ≡ get_or (r ∷ rs) i d
  respelled_at i d h =
      let e : i ≡ 0 + i = omega arith in
      ap (proof_of s) e ∙ sym (proofs_at s (length (r ∷ rs)) 0 i d h) ∙ ap (λ x. get_or x i d) respelled
