-- The records of a path of a sound image: each entry has 38 bytes and a kind below the stop's, the stop has 74. So the
-- length of a proof from an entry on is found by counting, and so is the length of each piece of a joint proof.
-- Assumes nothing.
use Prim.Native.Nat.{ℕ, zero, suc, ◌+◌, ◌≤◌}
use native.Mathlib.Omega.{arith}
use mathlib.Core.Path.{◌≡◌, refl, ap, ◌∙◌}
use mathlib.Core.Bool.{Bool, true, false, cond}
use mathlib.Core.List.{List, [], ◌∷◌, ◌++◌, map}
use lib.Dec.{eqb}
use lib.ListN.{length, drop, length-append, length-drop}
use Rattle.octets.specs.Numbers.{be}
use Rattle.sha256.specs.Hash.{sha256}
use Rattle.sha256.proofs.Hashes.{sha256-length}
use Rattle.skiplist.specs.Limits.{digest_bytes}
use Rattle.skiplist.specs.Row.{Item}
use Rattle.skiplist.specs.Tree.{Tree, empty, leaf, node}
use Rattle.skiplist.specs.Sides.{trees, side_of}
use Rattle.skiplist.specs.Entry.{Entry, down, right, pass, map_entry}
use Rattle.skiplist.specs.Recompute.{plug}
use Rattle.skiplist.specs.Label.{Side, sides}
use Rattle.skiplist.specs.Blocks.{Kept, Sent, zeros, shown, head, row}
use Rattle.skiplist.proofs.GoodTree.{NonEmpty, Good, tree-good}
use Rattle.skiplist.proofs.BlockLaws.{sends, fit_row}
use Rattle.skiplist.proofs.WayLaws.{way-whole}
use Rattle.archive.specs.Reading.{count_of, blocks_of, sound}
use Rattle.archive.proofs.SoundLaws.{sound_is}
use Rattle.archive.proofs.RecordLaws.{length-blocks}
use Rattle.archive.proofs.ImageLaws.{sound_row}
use Rattle.proofbytes.specs.Layout.{down_kind, right_kind, most_entries, stop_size}
use Rattle.proofbytes.specs.Writing.{field_bytes, entry_bytes, entries_bytes, label_field, stop_fields}
use Rattle.proofbytes.proofs.ReadBack.{shown-length}
use Rattle.proofbytes.proofs.WriteLaws.{length_fields, length-stop}
use Rattle.jointbytes.specs.Layout.{shared_bytes}
use Rattle.jointbytes.specs.Spelling.{joined}
use Rattle.jointbytes.specs.Proper.{EntryRecords, Proper}
use Rattle.jointbytes.proofs.CommonLaws.{AllLong, entries_long, length-joined}
use Rattle.store.specs.Answers.{path_at, entries_at}
use Rattle.jointstore.specs.Answers.{raw_at}
use Rattle.jointstore.specs.Passes.{shared_at, rest_at, rest_size, piece_at}
use Rattle.jointstore.proofs.SharingLaws.{raw_count}

-- RECORDS JOINED
pub entries-joined : (es : List (Entry Side)) → joined (map entry_bytes es) ≡ entries_bytes es
unfolding joined entries_bytes
entries-joined [] = refl
entries-joined (e ∷ es) = ap (λ r. entry_bytes e ++ r) (entries-joined es)

long_drop : (c : ℕ) (xs : List (List ℕ)) → AllLong xs → AllLong (drop c xs)
long_drop zero xs k = k
long_drop (suc c) [] k = tt
long_drop (suc c) (x ∷ xs) k = long_drop c xs k.1

-- THE SIDES of a row's path have labels of 32 bytes
label_long : (t : Tree) → NonEmpty t → length (side_of (sides sha256) t).label ≡ digest_bytes
label_long empty n = absurd n
label_long (leaf c r) n = sha256-length _
label_long (node l a b) n = sha256-length _

field_long : (t : Tree) → length (label_field (side_of (sides sha256) t)) ≡ digest_bytes
field_long empty = refl
field_long (leaf c r) = go (eqb (side_of (sides sha256) (leaf c r)).rank 0)
  where
    go : (e : Bool) → length (cond e zeros (side_of (sides sha256) (leaf c r)).label) ≡ digest_bytes
    go true = refl
    go false = sha256-length _
field_long (node l a b) = go (eqb (side_of (sides sha256) (node l a b)).rank 0)
  where
    go : (e : Bool) → length (cond e zeros (side_of (sides sha256) (node l a b)).label) ≡ digest_bytes
    go true = refl
    go false = sha256-length _

record Carried (q : List (Entry Tree)) (c : Item) : Type 0 where
  entries : EntryRecords (map entry_bytes (map (map_entry (side_of (sides sha256))) q))
  stop : Sent true c

carried : (f : Bool) (q : List (Entry Tree)) (c : Item) (r : Tree) → Good Kept f (plug trees q (leaf c r)) → Carried q c
unfolding field_bytes
carried f [] c r g = record { entries = tt; stop = sends f c g.0 }
carried f (down l s ∷ q) c r g =
    let o = carried f q c r g.3 in
    record {
      entries = (
        (
          length_fields down_kind l (side_of (sides sha256) s).rank (side_of (sides sha256) s).label (label_long s g.2),
          omega arith,
        ),
        o.entries,
      );
      stop = o.stop;
    }
carried f (right l s ∷ q) c r g =
    let o = carried false q c r g.4 in
    record {
      entries = (
        (
          length_fields right_kind l (side_of (sides sha256) s).rank (side_of (sides sha256) s).label (label_long s g.1),
          omega arith,
        ),
        o.entries,
      );
      stop = o.stop;
    }
carried f (pass d ∷ q) c r g =
    let o = carried false q c r g.1 in
    record {
      entries = (
        (length_fields right_kind 0 d.own (shown d) (shown-length d (sends f d g.0)), omega arith),
        o.entries,
      );
      stop = o.stop;
    }

-- THE PROOFS OF A SOUND IMAGE
module _ (b : List ℕ) (good : sound b ≡ true) (p : ℕ) (in_row : p ≤ count_of b) where
  path-carried : Carried (path_at b p).entries (path_at b p).item
  unfolding path_at
  path-carried =
      let l = sound_row b (sound_is b good) in
      carried true (path_at b p).entries (path_at b p).item (path_at b p).side
      (rw (way-whole p (blocks_of b) l.sound (rw (length-blocks b 0 (count_of b)) in_row))
      (tree-good Kept true head (row (blocks_of b)) (refl, refl) (fit_row (blocks_of b) l.sound)))

  entries_good : EntryRecords (raw_at b p).entries
  entries_good = path-carried.entries

  all_long : AllLong (raw_at b p).entries
  all_long = entries_long (raw_at b p).entries entries_good

  stop_long : length (raw_at b p).stop ≡ stop_size
  stop_long =
      length-stop (path_at b p).item.own (side_of (sides sha256) (path_at b p).side).rank (shown (path_at b p).item)
      (label_field (side_of (sides sha256) (path_at b p).side)) (shown-length (path_at b p).item path-carried.stop)
      (field_long (path_at b p).side)

  -- each is a proper proof
  pub raw-proper : entries_at b p ≤ most_entries → Proper (raw_at b p)
  unfolding stop_fields field_bytes
  raw-proper few = record {
    entries = entries_good;
    few = omega (arith, raw_count b p);
    stop_size_is = stop_long;
    stop_kind_holds = refl;
  }

  pub length-rest : (c : ℕ) → length (rest_at b p c) ≡ rest_size (entries_at b p) c
  unfolding rest_at
  length-rest c =
      length-append (joined (drop c (raw_at b p).entries)) (raw_at b p).stop
      ∙ omega (
        arith,
        length-joined (drop c (raw_at b p).entries) (long_drop c (raw_at b p).entries all_long),
        length-drop c (raw_at b p).entries,
        raw_count b p,
        stop_long,
      )

pub length_piece : (b : List ℕ) → sound b ≡ true → (p q : ℕ) → q ≤ count_of b
    → length (piece_at b p q) ≡ shared_bytes + rest_size (entries_at b q) (shared_at b p q)
unfolding piece_at
length_piece b good p q in_row =
    length-append (be shared_bytes (shared_at b p q)) (rest_at b q (shared_at b p q))
    ∙ omega (arith, length-rest b good q in_row (shared_at b p q))
