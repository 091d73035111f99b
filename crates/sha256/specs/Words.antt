-- FIPS 180-4, sections 3.2 and 4.1.2: operations and functions on words. A word is a number below 2 ^ 32.
-- Assumes nothing.
use Rattle.std.specs.Prelude.{ℕ, ◌+◌, ◌-◌, ◌*◌, ◌/◌, ◌%◌, ◌^◌, bit_and, bit_or, bit_xor}

-- 3.2, 1: "Bitwise logical word operations": and, or and xor are those of bits, and this is the complement
abbrev pub complement : ℕ → ℕ
complement x = (2 ^ 32 - 1) - x

-- 3.2, 2: "Addition modulo 2^w"
abbrev pub plus : ℕ → ℕ → ℕ
plus x y = (x + y) % 2 ^ 32

-- 3.2, 3: "The right shift operation SHR^n(x)"
abbrev pub shr : ℕ → ℕ → ℕ
shr n x = x / 2 ^ n

-- 3.2, 4: "The rotate right (circular right shift) operation ROTR^n(x)" = (x >> n) or (x << w - n)
abbrev pub rotr : ℕ → ℕ → ℕ
rotr n x = bit_or (shr n x) ((x * 2 ^ (32 - n)) % 2 ^ 32)

-- 4.1.2, (4.2) to (4.7): the six functions
abbrev pub ch : ℕ → ℕ → ℕ → ℕ
ch x y z = bit_xor (bit_and x y) (bit_and (complement x) z)

abbrev pub maj : ℕ → ℕ → ℕ → ℕ
maj x y z = bit_xor (bit_xor (bit_and x y) (bit_and x z)) (bit_and y z)

abbrev pub big_sigma0 : ℕ → ℕ
big_sigma0 x = bit_xor (bit_xor (rotr 2 x) (rotr 13 x)) (rotr 22 x)

abbrev pub big_sigma1 : ℕ → ℕ
big_sigma1 x = bit_xor (bit_xor (rotr 6 x) (rotr 11 x)) (rotr 25 x)

abbrev pub small_sigma0 : ℕ → ℕ
small_sigma0 x = bit_xor (bit_xor (rotr 7 x) (rotr 18 x)) (shr 3 x)

abbrev pub small_sigma1 : ℕ → ℕ
small_sigma1 x = bit_xor (bit_xor (rotr 17 x) (rotr 19 x)) (shr 10 x)
