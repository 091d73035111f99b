-- What the private functions of the joint proof compute: no pledge cites these.
-- Assumes nothing.
use Rattle.std.specs.Prelude.{ℕ, ◌+◌, ◌-◌, ◌*◌, ◌≤◌, ◌<◌, List, [], ◌∷◌, ◌++◌, drop, get_or}
use Rattle.octets.specs.Numbers.{be}
use Rattle.skiplist.specs.Limits.{most_height}
use Rattle.skiplist.specs.Row.{AtMost}
use Rattle.skiplist.specs.Entry.{Entry}
use Rattle.skiplist.specs.Blocks.{shown}
use Rattle.labels.specs.declared.Side.{Side}
use Rattle.archive.specs.Reading.{count_of, height_at}
use Rattle.proofbytes.specs.Layout.{entry_size, stop_size}
use Rattle.proofbytes.specs.Writing.{stop_fields}
use Rattle.jointbytes.specs.Layout.{shared_bytes}
use Rattle.jointbytes.specs.Spelling.{common, joined}
use Rattle.store.specs.Passes.{slot_of, slots_of, item_at, run_of, bytes_of, tail_at}
use Rattle.jointstore.specs.Answers.{raw_at}

-- the number of leading entries that the paths to columns p and q share
unfoldable pub shared_at : List ℕ → ℕ → ℕ → ℕ
shared_at b p q = common (raw_at b p).entries (raw_at b q).entries

-- PARTS: no column after column q up to column e is taller than m, and the one after that is
pub record Reaches (b : List ℕ) (m q e : ℕ) : Type 0 where
  pub after : q ≤ e
  pub in_row : e ≤ count_of b
  pub low : AtMost m (run_of b q e)
  pub next : e < count_of b → m < height_at b e

-- the path to column q from column a on in the columns up to column e, and its bytes with the stop's
abbrev pub part_of : List ℕ → ℕ → ℕ → ℕ → List (Entry Side)
part_of b a q e = tail_at b (slots_of (run_of b q e)) q a most_height

unfoldable pub part_at : List ℕ → ℕ → ℕ → ℕ → List ℕ
part_at b a q e =
    bytes_of (part_of b a q e)
    ++ stop_fields (item_at b q).own (shown (item_at b q)) (slot_of (slots_of (run_of b q e)) 0).rank
    (slot_of (slots_of (run_of b q e)) 0).label

-- BYTES: the path to column p from the entry with c before it on, and its stop; of k entries it has so many
unfoldable pub rest_at : List ℕ → ℕ → ℕ → List ℕ
rest_at b p c = joined (drop c (raw_at b p).entries) ++ (raw_at b p).stop

abbrev pub rest_size : ℕ → ℕ → ℕ
rest_size k c = entry_size * (k - c) + stop_size

-- the proof of q after that of p; those of the positions qs after that of p
unfoldable pub piece_at : List ℕ → ℕ → ℕ → List ℕ
piece_at b p q = be shared_bytes (shared_at b p q) ++ rest_at b q (shared_at b p q)

unfoldable pub pieces_at : List ℕ → ℕ → List ℕ → List ℕ
pieces_at b p [] = []
pieces_at b p (q ∷ qs) = piece_at b p q ++ pieces_at b q qs

-- those of all positions but the first
abbrev pub later_at : List ℕ → List ℕ → List ℕ
later_at b ps = pieces_at b (get_or ps 0 0) (drop 1 ps)
