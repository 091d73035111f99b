-- "Archive image": the bytes of a row of blocks. "Version 1; length of the rest in four bytes (2 + 33n); n in two; then
-- n records of height and tag, 33 bytes each. Whole: 7 + 33n."
-- Assumes nothing.
use Rattle.std.specs.Prelude.{ℕ, ◌+◌, ◌*◌, List, [], ◌∷◌, ◌++◌, length}
use Rattle.octets.specs.Numbers.{be}
use Rattle.skiplist.specs.Blocks.{Block}

abbrev pub image_version : ℕ
image_version = 1

-- where the two numbers of the header stand, and in how many bytes
abbrev pub length_place : ℕ
length_place = 1

abbrev pub length_bytes : ℕ
length_bytes = 4

abbrev pub count_place : ℕ
count_place = 5

abbrev pub count_bytes : ℕ
count_bytes = 2

-- version, length and count
abbrev pub header_bytes : ℕ
header_bytes = 7

-- height and tag
abbrev pub record_bytes : ℕ
record_bytes = 33

-- "length of the rest .. (2 + 33n)"
abbrev pub rest_bytes : ℕ → ℕ
rest_bytes n = count_bytes + record_bytes * n

-- "Whole: 7 + 33n."
abbrev pub image_bytes : ℕ → ℕ
image_bytes n = header_bytes + record_bytes * n

abbrev pub header_of : ℕ → List ℕ
header_of n = image_version ∷ (be length_bytes (rest_bytes n) ++ be count_bytes n)

abbrev pub record_of : Block → List ℕ
record_of b = b.height ∷ b.tag

unfoldable pub records_of : List Block → List ℕ
records_of [] = []
records_of (b ∷ bs) = record_of b ++ records_of bs

unfoldable pub image_of : List Block → List ℕ
image_of bs = header_of (length bs) ++ records_of bs
