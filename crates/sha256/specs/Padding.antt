-- FIPS 180-4, sections 5.1.1 and 5.2.1: a message of whole bytes is padded, and parsed into blocks of 64 bytes.
-- Assumes nothing.
use Rattle.std.specs.Prelude.{◌≡◌, ℕ, ◌+◌, ◌-◌, ◌*◌, ◌/◌, ◌%◌, List, ◌∷◌, ◌++◌, length, take, drop, replicate}
use Rattle.octets.specs.Numbers.{be}
use Rattle.octets.specs.Runs.{part}

-- 5.1.1: "Append the bit “1” to the end of the message, followed by k zero bits, where k is the smallest, non-negative
-- solution to the equation l + 1 + k = 448 mod 512." For a message of n bytes k is 7 + 8 * zeros n: the bit and seven
-- zeros are the byte 128, and after it come so many zero bytes
abbrev pub zeros : ℕ → ℕ
zeros n = (119 - n % 64) % 64

-- "Then append the 64-bit block that is equal to the number l expressed using a binary representation."
unfoldable pub padding : ℕ → List ℕ
padding n = 128 ∷ (replicate (zeros n) 0 ++ be 8 (n * 8))

unfoldable pub padded : List ℕ → List ℕ
padded m = m ++ padding (length m)

-- how many blocks a message of n bytes has when padded: n bytes, the byte 128 and eight of the length, rounded up
abbrev pub blocks : ℕ → ℕ
blocks n = (n + 72) / 64

-- 5.2.1: block i of the padded message
abbrev pub block : List ℕ → ℕ → List ℕ
block p i = part p (i * 64) 64

-- a message's last part m, padded, where n bytes of the message stand before it
unfoldable pub padded_after : ℕ → List ℕ → List ℕ
padded_after n m = m ++ padding (n + length m)

-- the first `end` bytes of t are the blocks of the padded message that follow the whole blocks of its last part m
pub record Ends (before : ℕ) (m t : List ℕ) (end : ℕ) : Type 0 where
  pub size : end ≡ blocks (length m % 64) * 64
  pub bytes : take end t ≡ drop (length m / 64 * 64) (padded_after before m)
