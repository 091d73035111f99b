-- What bytes are read as, whatever they are: an entry by its place among the entries, the stop, and the path that
-- they make. Whether the bytes keep the rules is `Form`'s.
-- Assumes nothing.
use Rattle.std.specs.Prelude.{ℕ, zero, suc, ◌+◌, ◌-◌, ◌*◌, ◌/◌, ◌≤◌, ◌≡◌, cond, List, [], ◌∷◌, eqb, length, get_or}
use Rattle.octets.specs.Numbers.{number_at}
use Rattle.octets.specs.Runs.{part}
use Rattle.skiplist.specs.Entry.{Entry, down, right, pass, Place}
use Rattle.skiplist.specs.Label.{Side, nothing}
use Rattle.skiplist.specs.Limits.{digest_bytes}
use Rattle.skiplist.specs.Blocks.{item_of}
use Rattle.proofbytes.specs.Layout.{header_size, entry_size, stop_size, most_entries, level_place, number_place}
use Rattle.proofbytes.specs.Layout.{bytes_place, right_rank_place, right_label_place, down_kind}
use Rattle.proofbytes.specs.declared.read.Fields.{Fields}
use Rattle.proofbytes.specs.declared.read.Beside.{Beside}

-- where the entry with i entries before it stands; after the last entry, the stop
abbrev pub at : ℕ → ℕ
at i = header_size + entry_size * i

-- "kind byte, level byte, four-byte rank, 32 bytes"
unfoldable pub fields_at : List ℕ → ℕ → Fields
fields_at s i = record {
  kind = get_or s (at i) 0;
  level = get_or s (at i + level_place) 0;
  number = number_at 4 s (at i + number_place);
  bytes = part s (at i + bytes_place) digest_bytes;
}

-- the stop's "right rank and label"
unfoldable pub beside_at : List ℕ → ℕ → Beside
beside_at s k = record {
  rank = number_at 4 s (at k + right_rank_place);
  label = part s (at k + right_label_place) digest_bytes;
}

-- an entry by its kind and level: down, right, or the leaf passed
unfoldable pub entry_of : Fields → Entry Side
entry_of e =
    cond (eqb e.kind down_kind) (down e.level (record { rank = e.number; label = e.bytes }))
    (cond (eqb e.level 0) (pass (item_of e.number e.bytes))
    (right e.level (record { rank = e.number; label = e.bytes })))

-- the stop's right side: empty "if that rank is 0"
unfoldable pub side_from : Beside → Side
side_from b = record { rank = b.rank; label = cond (eqb b.rank 0) nothing b.label }

abbrev pub entry_at : List ℕ → ℕ → Entry Side
entry_at s i = entry_of (fields_at s i)

-- n entries from the i-th on
unfoldable pub entries_from : List ℕ → ℕ → ℕ → List (Entry Side)
entries_from s i zero = []
entries_from s i (suc n) = entry_at s i ∷ entries_from s (suc i) n

-- k entries and the stop
abbrev pub place_at : List ℕ → ℕ → Place Side
place_at s k = record {
  entries = entries_from s 0 k;
  item = item_of (fields_at s k).number (fields_at s k).bytes;
  side = side_from (beside_at s k);
}

-- "With k entries it has 77 + 38k bytes": k, by the length
abbrev pub count_of : List ℕ → ℕ
count_of s = (length s - (header_size + stop_size)) / entry_size

-- "exactly 77 + 38k for some k from 0 to 200"
pub record Sized (s : List ℕ) : Type 0 where
  pub few : count_of s ≤ most_entries
  pub long : length s ≡ at (count_of s) + stop_size

abbrev pub place_of : List ℕ → Place Side
place_of s = place_at s (count_of s)
