-- "Numbers that bound the work": those that speak of rows and trees.
-- Assumes nothing.
use Rattle.std.specs.Prelude.{ℕ}

-- "Blocks 0 to 4,096."
abbrev pub most_blocks : ℕ
most_blocks = 4096

-- "Heights 0 to 15."
abbrev pub most_height : ℕ
most_height = 15

-- a digest, a tag and a label have 32 bytes
abbrev pub digest_bytes : ℕ
digest_bytes = 32
