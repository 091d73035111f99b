-- Records that stand in bytes: entries one after the other, and a stop behind them, are found by their kinds and read back.
-- Assumes nothing.
use Prim.Native.Nat.{ℕ, zero, suc, ◌+◌, ◌*◌, ◌≤◌, ◌<◌}
use mathlib.Core.Path.{◌≡◌, refl, sym, ap, ap₂, ◌∙◌}
use mathlib.Core.Bool.{Bool, true, false, ◌&&◌}
use mathlib.Core.List.{List, [], ◌∷◌, ◌++◌, append_assoc}
use native.Mathlib.Nat.{add-zero}
use native.Mathlib.Omega.{arith}
use lib.Dec.{leb}
use lib.ListN.{length, get_or, length-append, get_or-append}
use lib.Seq.{get_or-append-add}
use borrow.Author.Tests.{le-leb, lt-ltb, le-ltb}
use Rattle.octets.specs.Runs.{part}
use Rattle.octets.proofs.PartLaws.{part_middle}
use Rattle.jointbytes.specs.Spelling.{joined}
use Rattle.jointbytes.specs.Reading.{ahead, piece_at, stop_at, end_of, stop_stands, records_from}
use Rattle.jointbytes.specs.Proper.{EntryRecords}
use Rattle.jointbytes.specs.declared.read.Piece.{Piece}
use Rattle.jointbytes.proofs.CommonLaws.{entries_long, length-joined}

pub and-false : (t : Bool) → t && false ≡ false
and-false true = refl
and-false false = refl

-- what stands right behind a front
pub behind_front : (front rest : List ℕ) (a : ℕ) → length front ≡ a → get_or (front ++ rest) a 0 ≡ get_or rest 0 0
behind_front front rest a size =
    ap (λ n. get_or (front ++ rest) n 0) (sym (add-zero a)) ∙ rw (← size) (get_or-append-add front rest 0 0)

module _ (s : List ℕ) where
  -- a record is found an entry, or the end of them, by its kind
  ahead_entry : (most a : ℕ) → a + 38 ≤ length s → get_or s a 0 < 2 → ahead (suc most) s a ≡ suc (ahead most s (a + 38))
  unfolding ahead
  ahead_entry most a room kind = rw (le-leb (a + 38) (length s) room, lt-ltb (get_or s a 0) 2 kind)

  ahead_other : (most a : ℕ) → 2 ≤ get_or s a 0 → ahead most s a ≡ 0
  unfolding ahead
  ahead_other zero a kind = refl
  ahead_other (suc most) a kind = rw (le-ltb (get_or s a 0) 2 kind, and-false (leb (a + 38) (length s)))

  -- one entry behind a front, and what is behind it
  module _ (front x xs rest : List ℕ) (a : ℕ) (size : length front ≡ a) (is : s ≡ front ++ (x ++ xs ++ rest))
      (long : length x ≡ 38) where
    past_is : s ≡ (front ++ x) ++ (xs ++ rest)
    past_is = is ∙ ap (λ r. front ++ r) (append_assoc x xs rest) ∙ sym (append_assoc front x (xs ++ rest))

    past_size : length (front ++ x) ≡ a + 38
    past_size = length-append front x ∙ omega arith

    past_room : a + 38 ≤ length s
    past_room = omega (arith, ap length past_is, length-append (front ++ x) (xs ++ rest), past_size)

    here_kind : get_or s a 0 ≡ get_or x 0 0
    here_kind =
        ap (λ r. get_or r a 0) (past_is ∙ append_assoc front x (xs ++ rest))
        ∙ behind_front front (x ++ (xs ++ rest)) a size ∙ get_or-append x (xs ++ rest) 0 0 (omega arith)

    here_is : part s a 38 ≡ x
    here_is =
        ap (λ r. part r a 38) (past_is ∙ append_assoc front x (xs ++ rest))
        ∙ part_middle front x (xs ++ rest) a 38 size long

  module _ (rest : List ℕ) (stops : 2 ≤ get_or rest 0 0) where
    pub ahead_back : (most : ℕ) (xs : List (List ℕ)) (front : List ℕ) (a : ℕ) → EntryRecords xs → length front ≡ a
        → s ≡ front ++ (joined xs ++ rest) → length xs ≤ most → ahead most s a ≡ length xs
    unfolding joined
    ahead_back most [] front a k size is h =
        ahead_other most a (omega (arith, ap (λ r. get_or r a 0) is, behind_front front rest a size))
    ahead_back zero (x ∷ xs) front a k size is h = absurd (omega arith)
    ahead_back (suc most) (x ∷ xs) front a k size is h =
        ahead_entry most a (past_room front x (joined xs) rest a size is k.0.0)
        (rw (here_kind front x (joined xs) rest a size is k.0.0) k.0.1)
        ∙ ap suc (ahead_back most xs (front ++ x) (a + 38) k.1 (past_size front x (joined xs) rest a size is k.0.0)
        (past_is front x (joined xs) rest a size is k.0.0) (omega arith))

  pub records_back : (xs : List (List ℕ)) (front rest : List ℕ) (a : ℕ) → EntryRecords xs → length front ≡ a
      → s ≡ front ++ (joined xs ++ rest) → records_from s a (length xs) ≡ xs
  unfolding joined records_from
  records_back [] front rest a k size is = refl
  records_back (x ∷ xs) front rest a k size is =
      ap₂ ◌∷◌ (here_is front x (joined xs) rest a size is k.0.0)
      (records_back xs (front ++ x) rest (a + 38) k.1 (past_size front x (joined xs) rest a size is k.0.0)
      (past_is front x (joined xs) rest a size is k.0.0))

-- ONE PIECE behind a front: its entries and its stop are found, and the rest stands behind it
pub record Found (s : List ℕ) (q : Piece) (own : List (List ℕ)) (stop rest : List ℕ) : Type 0 where
  pub records : records_from s q.from q.own ≡ own
  pub last : part s (stop_at q) 74 ≡ stop
  pub stands : stop_stands s q ≡ true
  pub until : List ℕ
  pub is : s ≡ until ++ rest
  pub size : length until ≡ end_of q

module _ (s front : List ℕ) (own : List (List ℕ)) (stop rest : List ℕ) (entries : EntryRecords own)
    (long : length stop ≡ 74) (kind : get_or stop 0 0 ≡ 2) (shared a : ℕ) (size : length front ≡ a)
    (is : s ≡ front ++ (joined own ++ (stop ++ rest))) where
  abbrev before : List ℕ
  before = front ++ joined own

  is_before : s ≡ before ++ (stop ++ rest)
  is_before = is ∙ sym (append_assoc front (joined own) (stop ++ rest))

  before_size : length before ≡ a + 38 * length own
  before_size =
      length-append front (joined own) ∙ omega (arith, length-joined own (entries_long own entries))

  is_until : s ≡ (before ++ stop) ++ rest
  is_until = is_before ∙ sym (append_assoc before stop rest)

  until_size : length (before ++ stop) ≡ a + 38 * length own + 74
  until_size = length-append before stop ∙ omega (arith, before_size)

  room : a + 38 * length own + 74 ≤ length s
  room = omega (arith, ap length is_until, length-append (before ++ stop) rest, until_size)

  stop_first : get_or (stop ++ rest) 0 0 ≡ 2
  stop_first = get_or-append stop rest 0 0 (omega arith) ∙ kind

  own_is : ahead (length s) s a ≡ length own
  own_is =
      ahead_back s (stop ++ rest) (omega (arith, stop_first)) (length s) own front a entries size is
      (omega (arith, room))

  stop_kind_is : get_or s (a + 38 * length own) 0 ≡ 2
  stop_kind_is =
      ap (λ r. get_or r (a + 38 * length own) 0) is_before
      ∙ behind_front before (stop ++ rest) (a + 38 * length own) before_size ∙ stop_first

  stop_is : part s (a + 38 * length own) 74 ≡ stop
  stop_is =
      ap (λ r. part r (a + 38 * length own) 74) is_before
      ∙ part_middle before stop rest (a + 38 * length own) 74 before_size long

  stands_is : stop_stands s (piece_at s shared a) ≡ true
  unfolding stop_stands
  stands_is = rw (own_is, le-leb (a + 38 * length own + 74) (length s) room, stop_kind_is)

  pub found : Found s (piece_at s shared a) own stop rest
  found = record {
    records = rw own_is (records_back s own front (stop ++ rest) a entries size is);
    last = rw own_is stop_is;
    stands = stands_is;
    until = before ++ stop;
    is = is_until;
    size = rw own_is until_size;
  }
