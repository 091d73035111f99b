-- "A proof: version 1; length of the rest in two bytes; entries from the root, 38 bytes each; a stop record of 74."
-- The bytes of a path whose sides are ranks and labels.
-- Assumes nothing.
use Rattle.std.specs.Prelude.{ℕ, cond, List, [], ◌∷◌, ◌++◌, eqb, length}
use Rattle.octets.specs.Numbers.{be}
use Rattle.skiplist.specs.Row.{Item}
use Rattle.skiplist.specs.Entry.{Entry, down, right, pass, Place}
use Rattle.skiplist.specs.Label.{Side, rank_bytes}
use Rattle.skiplist.specs.Blocks.{zeros, shown}
use Rattle.proofbytes.specs.Layout.{proof_version, down_kind, right_kind, stop_kind, length_bytes, rest_size}

unfoldable pub header_bytes : ℕ → List ℕ
header_bytes k = proof_version ∷ be length_bytes (rest_size k)

-- "kind byte, level byte, four-byte rank, 32 bytes"
unfoldable pub field_bytes : ℕ → ℕ → ℕ → List ℕ → List ℕ
field_bytes kind level rank bytes = kind ∷ level ∷ (rank_bytes rank ++ bytes)

-- "Kind 0, down, level 1 to 15: rank (at least 1) and label of the right side." "Kind 1, right, level 1 to 15: rank
-- (0 allowed) and label of the lower side." "Kind 1, level 0: own and tag of the leaf passed; .. the tag field all
-- zero if own is 0."
abbrev pub entry_bytes : Entry Side → List ℕ
entry_bytes (down l s) = field_bytes down_kind l s.rank s.label
entry_bytes (right l s) = field_bytes right_kind l s.rank s.label
entry_bytes (pass c) = field_bytes right_kind 0 c.own (shown c)

unfoldable pub entries_bytes : List (Entry Side) → List ℕ
entries_bytes [] = []
entries_bytes (e ∷ p) = entry_bytes e ++ entries_bytes p

-- "Stop: kind 2, level 0, own and tag as above, then right rank and label; label all zero if that rank is 0."
abbrev pub label_field : Side → List ℕ
label_field s = cond (eqb s.rank 0) zeros s.label

unfoldable pub stop_fields : ℕ → List ℕ → ℕ → List ℕ → List ℕ
stop_fields own tag rank label = field_bytes stop_kind 0 own tag ++ (rank_bytes rank ++ label)

abbrev pub stop_bytes : Item → Side → List ℕ
stop_bytes c s = stop_fields c.own (shown c) s.rank (label_field s)

unfoldable pub proof_bytes : Place Side → List ℕ
proof_bytes z = header_bytes (length z.entries) ++ (entries_bytes z.entries ++ stop_bytes z.item z.side)
