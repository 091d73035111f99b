-- Document 02, ask 3: the numbers of the joint proof's form. A record is one of a proof's: an entry of 38 bytes, or the stop of 74.
-- Assumes nothing.
use Rattle.std.specs.Prelude.{ℕ}

-- "1 to 32 strictly rising positions"
abbrev pub most_positions : ℕ
most_positions = 32

-- "version 1, length in four bytes, number of positions in one"
abbrev pub joint_version : ℕ
joint_version = 1

abbrev pub joint_length_bytes : ℕ
joint_length_bytes = 4

abbrev pub joint_length_place : ℕ
joint_length_place = 1

abbrev pub number_place : ℕ
number_place = 5

abbrev pub joint_header : ℕ
joint_header = 6

-- "the number of leading entries shared with the one before, in two bytes"
abbrev pub shared_bytes : ℕ
shared_bytes = 2
