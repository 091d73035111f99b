-- An edited row's image in its buffer: it begins where the old one began, bytes that the old image had and the new one
-- has not are zero ("Delete sets the 33 bytes that the image gave up to zero"), and every other byte stays.
-- Assumes nothing.
use Rattle.std.specs.Prelude.{ℕ, ◌-◌, List, ◌++◌, length, drop, replicate}
use Rattle.octets.specs.Runs.{patch}
use Rattle.skiplist.specs.Blocks.{Block}
use Rattle.skiplist.specs.Commands.{Command, replace, insert, delete, edited}
use Rattle.archive.specs.Form.{image_bytes, image_of}
use Rattle.archive.specs.Reading.{count_of, blocks_of}

-- the bytes that the buffer's image gives up where the row bs takes its place
abbrev pub given_up : List ℕ → List Block → ℕ
given_up b bs = image_bytes (count_of b) - image_bytes (length bs)

unfoldable pub rewritten : List ℕ → List Block → List ℕ
rewritten b bs = patch b 0 (image_of bs ++ replicate (given_up b bs) 0)

-- the buffer after a command of the model
abbrev pub after_edit : List ℕ → Command → List ℕ
after_edit b k = rewritten b (edited k (blocks_of b))

abbrev pub after_replace : List ℕ → ℕ → List ℕ → List ℕ
after_replace b p t = after_edit b (replace p t)

abbrev pub after_insert : List ℕ → ℕ → ℕ → List ℕ → List ℕ
after_insert b p h t = after_edit b (insert p (record { height = h; tag = t }))

abbrev pub after_delete : List ℕ → ℕ → List ℕ
after_delete b p = after_edit b (delete p)

-- the spare bytes s behind an image of n blocks, once one of m has taken its place: some are taken from their front, or
-- zeros are put before them
abbrev pub spare_after : ℕ → ℕ → List ℕ → List ℕ
spare_after n m s = replicate (image_bytes n - image_bytes m) 0 ++ drop (image_bytes m - image_bytes n) s
