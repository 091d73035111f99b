-- "Paths and proof bytes": the numbers of the proof's form.
-- Assumes nothing.
use Rattle.std.specs.Prelude.{ℕ, ◌+◌, ◌*◌}

-- "Entries in a path 0 to 200."
abbrev pub most_entries : ℕ
most_entries = 200

abbrev pub proof_version : ℕ
proof_version = 1

-- "Kind 0, down", "Kind 1, right", "Stop: kind 2"
abbrev pub down_kind : ℕ
down_kind = 0

abbrev pub right_kind : ℕ
right_kind = 1

abbrev pub stop_kind : ℕ
stop_kind = 2

-- "version 1; length of the rest in two bytes; entries from the root, 38 bytes each; a stop record of 74"
abbrev pub length_bytes : ℕ
length_bytes = 2

abbrev pub header_size : ℕ
header_size = 3

abbrev pub entry_size : ℕ
entry_size = 38

abbrev pub stop_size : ℕ
stop_size = 74

-- "length of the rest" with k entries
abbrev pub rest_size : ℕ → ℕ
rest_size k = entry_size * k + stop_size

-- a proof without entries; "With k entries it has 77 + 38k bytes"
abbrev pub least_proof : ℕ
least_proof = 77

abbrev pub proof_size : ℕ → ℕ
proof_size k = least_proof + entry_size * k

-- where the length stands
abbrev pub length_place : ℕ
length_place = 1

-- in an entry, and in the stop: "kind byte, level byte, four-byte rank, 32 bytes"
abbrev pub level_place : ℕ
level_place = 1

abbrev pub number_place : ℕ
number_place = 2

abbrev pub bytes_place : ℕ
bytes_place = 6

-- in the stop: "then right rank and label"
abbrev pub right_rank_place : ℕ
right_rank_place = 38

abbrev pub right_label_place : ℕ
right_label_place = 42
