-- The rules of document 01's proof section: the bytes that keep them all are well formed, and others are refused with
-- 7. They speak of bytes alone.
-- Assumes nothing.
use Rattle.std.specs.Prelude.{ℕ, zero, suc, ◌+◌, ◌-◌, ◌*◌, ◌%◌, ◌≤◌, ◌≡◌, ◌⊎◌, Bool, true, false, cond, ◌&&◌, List, [], ◌∷◌, leb, eqb, length, get_or, Option, None, Some}
use Rattle.octets.specs.Numbers.{number_at}
use Rattle.octets.specs.Runs.{all_zero}
use Rattle.sha256.specs.Hash.{sha256}
use Rattle.skiplist.specs.Entry.{Entry, down, right, pass, Place, Falls}
use Rattle.skiplist.specs.Recompute.{proved_position, proved_rank}
use Rattle.skiplist.specs.Label.{Side, sides, nothing}
use Rattle.skiplist.specs.Limits.{most_blocks, most_height, digest_bytes}
use Rattle.skiplist.specs.Blocks.{Sent}
use Rattle.proofbytes.specs.Layout.{proof_version, length_bytes, length_place, header_size, entry_size, stop_size}
use Rattle.proofbytes.specs.Layout.{most_entries, down_kind, right_kind, stop_kind}
use Rattle.proofbytes.specs.Reading.{fields_at, beside_at, count_of, place_at, place_of}
use Rattle.proofbytes.specs.declared.read.Fields.{Fields}
use Rattle.proofbytes.specs.declared.read.Beside.{Beside}
use Rattle.proofbytes.specs.declared.read.Proven.{Proven}

abbrev pub within : ℕ → ℕ → ℕ → Bool
within low high x = leb low x && leb x high

-- ONE ENTRY, of a level that is to be at most `most`: none, or the greatest level that may follow. "Every rank field
-- is at most 4,096." "Kind 0, down, level 1 to 15: rank (at least 1)"; "After a down entry the next level is lower"
unfoldable pub down_of : ℕ → ℕ → ℕ → Option ℕ
down_of level rank most = cond (within 1 most_blocks rank && leb level most) (Some (level - 1)) None

-- "Kind 1, right, level 1 to 15: rank (0 allowed)"; "after a right entry it is no higher"
unfoldable pub right_of : ℕ → ℕ → ℕ → Option ℕ
right_of level rank most = cond (leb rank most_blocks && leb level most) (Some level) None

-- "own 0 or 1, and the tag field all zero if own is 0"
unfoldable pub leaf_fits : ℕ → List ℕ → Bool
leaf_fits own tag = cond (eqb own 0) (all_zero tag) (eqb own 1)

-- "Kind 1, level 0: own and tag of the leaf passed"
unfoldable pub pass_of : ℕ → List ℕ → Option ℕ
pass_of own tag = cond (leaf_fits own tag) (Some 0) None

-- "Each entry is read by its kind and level"
unfoldable pub judged_of : Fields → ℕ → Option ℕ
judged_of e most =
    cond (eqb e.kind down_kind) (cond (within 1 most_height e.level) (down_of e.level e.number most) None)
    (cond (eqb e.kind right_kind)
    (cond (eqb e.level 0) (pass_of e.number e.bytes)
    (cond (leb e.level most_height) (right_of e.level e.number most) None))
    None)

-- what an entry adds to the proved position
unfoldable pub ahead_of : Fields → ℕ
ahead_of e = cond (eqb e.kind down_kind) 0 e.number

-- n entries from the i-th on, the first of a level that is at most `most`
abbrev pub fitting : Option ℕ → (ℕ → Bool) → Bool
fitting None f = false
fitting (Some next) f = f next

unfoldable pub entries_fit : List ℕ → ℕ → ℕ → ℕ → Bool
entries_fit s i zero most = true
entries_fit s i (suc n) most = fitting (judged_of (fields_at s i) most) (λ next. entries_fit s (suc i) n next)

-- THE STOP: "label all zero if that rank is 0"
unfoldable pub beside_fits : ℕ → List ℕ → Bool
beside_fits rank label = cond (eqb rank 0) (all_zero label) (leb rank most_blocks)

-- "Stop: kind 2, level 0, own and tag as above, then right rank and label"
unfoldable pub stop_fits : Fields → Beside → Bool
stop_fits e b =
    eqb e.kind stop_kind && (eqb e.level 0 && (leaf_fits e.number e.bytes && beside_fits b.rank b.label))

-- THE HEADER: "exactly 77 + 38k for some k from 0 to 200 with that length stated", version 1
unfoldable pub header_fits : List ℕ → Bool
header_fits s =
    leb (header_size + stop_size) (length s)
    && (leb (length s) (header_size + entry_size * most_entries + stop_size)
    && (eqb ((length s - (header_size + stop_size)) % entry_size) 0
    && (eqb (get_or s 0 0) proof_version && eqb (number_at length_bytes s length_place) (length s - header_size))))

-- k entries and the stop
unfoldable pub walk_fits : List ℕ → ℕ → Bool
walk_fits s k = entries_fit s 0 k most_height && stop_fits (fields_at s k) (beside_at s k)

-- THE WHOLE: not 7
unfoldable pub well_formed : List ℕ → Bool
well_formed s = header_fits s && walk_fits s (count_of s)

-- what the walk answers: the proved position and the proved rank of well formed bytes
abbrev pub proven_by : Place Side → Proven
proven_by z = record { position = proved_position (sides sha256) z; rank = proved_rank (sides sha256) z }

unfoldable pub walked_of : List ℕ → ℕ → Option Proven
walked_of s k = cond (walk_fits s k) (Some (proven_by (place_at s k))) None

unfoldable pub formed_of : List ℕ → Option Proven
formed_of s = cond (well_formed s) (Some (proven_by (place_of s))) None

-- THE SAME RULES ON A PATH that is to be written: of each entry,
abbrev pub EntryFits : Entry Side → Type 0
EntryFits (down l s) = (1 ≤ s.rank) × (s.rank ≤ most_blocks) × (length s.label ≡ digest_bytes)
EntryFits (right l s) = (s.rank ≤ most_blocks) × (length s.label ≡ digest_bytes)
EntryFits (pass c) = Sent true c

abbrev pub AllFit : List (Entry Side) → Type 0
AllFit [] = Unit {0}
AllFit (e ∷ p) = EntryFits e × AllFit p

-- of the stop's right side, empty or not,
abbrev pub BesideFits : Side → Type 0
BesideFits r =
    ((r.rank ≡ 0) × (r.label ≡ nothing)) ⊎ ((1 ≤ r.rank) × (r.rank ≤ most_blocks)
    × (length r.label ≡ digest_bytes))

-- and of the whole
pub record Writable (z : Place Side) : Type 0 where
  pub few : length z.entries ≤ most_entries
  pub levels : Falls most_height z.entries
  pub entries : AllFit z.entries
  pub stop : Sent true z.item
  pub side : BesideFits z.side
