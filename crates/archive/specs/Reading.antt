-- An image read from the start of a lent buffer: where its records stand, the row that it says, and refusal 1. Every
-- reading is total; whether the buffer holds an image at all is judged by `sound`.
-- Assumes nothing.
use Rattle.std.specs.Prelude.{ℕ, zero, suc, ◌+◌, ◌*◌, Bool, true, ◌&&◌, List, [], ◌∷◌, eqb, leb, length}
use Rattle.octets.specs.Numbers.{number_at}
use Rattle.octets.specs.Runs.{part}
use Rattle.skiplist.specs.Limits.{most_blocks, most_height, digest_bytes}
use Rattle.skiplist.specs.Blocks.{Block}
use Rattle.archive.specs.Form.{image_version, length_place, length_bytes, count_place, count_bytes, header_bytes}
use Rattle.archive.specs.Form.{record_bytes, rest_bytes, image_bytes}
use Rattle.archive.specs.declared.Layout.{Layout}

-- where the first record begins, the bytes of one record, and n
abbrev pub layout_of : List ℕ → Layout
layout_of b = record { first = header_bytes; size = record_bytes; count = number_at count_bytes b count_place }

abbrev pub count_of : List ℕ → ℕ
count_of b = (layout_of b).count

-- the place of the record that has i others before it
abbrev pub record_at : List ℕ → ℕ → ℕ
record_at b i = (layout_of b).first + (layout_of b).size * i

abbrev pub height_at : List ℕ → ℕ → ℕ
height_at b i = number_at 1 b (record_at b i)

abbrev pub tag_at : List ℕ → ℕ → List ℕ
tag_at b i = part b (record_at b i + 1) digest_bytes

abbrev pub block_at : List ℕ → ℕ → Block
block_at b i = record { height = height_at b i; tag = tag_at b i }

-- k blocks, from the one that has i others before it on
unfoldable pub blocks_from : List ℕ → ℕ → ℕ → List Block
blocks_from b i zero = []
blocks_from b i (suc k) = block_at b i ∷ blocks_from b (suc i) k

abbrev pub blocks_of : List ℕ → List Block
blocks_of b = blocks_from b 0 (count_of b)

-- a position within the limits, with its record in the buffer
unfoldable pub held : List ℕ → ℕ → Bool
held b p = leb 1 p && (leb p most_blocks && leb (image_bytes p) (length b))

-- the first k heights are at most 15
unfoldable pub low : List ℕ → ℕ → Bool
low b zero = true
low b (suc i) = leb (height_at b i) most_height && low b i

-- neither "buffer under 7 bytes, version not 1, length not 2 + 33n, n over 4,096, buffer shorter than the image",
unfoldable pub framed : List ℕ → Bool
framed b =
    leb header_bytes (length b) &&
    (eqb (number_at 1 b 0) image_version &&
    (eqb (number_at length_bytes b length_place) (rest_bytes (count_of b)) &&
    (leb (count_of b) most_blocks &&
    leb (image_bytes (count_of b)) (length b))))

-- "or a height over 15": refusal 1 is due exactly where this is false
unfoldable pub sound : List ℕ → Bool
sound b = framed b && low b (count_of b)
