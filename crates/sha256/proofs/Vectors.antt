-- The definitions compute FIPS 180-4's published examples for SHA-256 and the digest of the empty message.
-- Assumes nothing.
use Rattle.std.proofs.Common.{◌≡◌, ℕ, zero, suc, List, [], ◌∷◌, ◌++◌, refl}
use Rattle.octets.specs.Numbers.{number_at}
use Rattle.octets.specs.Runs.{part}
use Rattle.sha256.specs.Constants.{constants, initial}
use Rattle.sha256.specs.Padding.{padding, padded}
use Rattle.sha256.specs.Hash.{word, schedule, shifted, round, rounds, sums, compressed, hashed, joined, sha256}

-- k letters from a on
letters : ℕ → ℕ → List ℕ
letters a zero = []
letters a (suc k) = a ∷ letters (suc a) k

-- n runs of k letters, the first from a on, each of the others one letter further on
runs : ℕ → ℕ → ℕ → List ℕ
runs k a zero = []
runs k a (suc n) = letters a k ++ runs k (suc a) n

empty : sha256 [] ≡
    0xe3 ∷ 0xb0 ∷ 0xc4 ∷ 0x42 ∷ 0x98 ∷ 0xfc ∷ 0x1c ∷ 0x14 ∷ 0x9a ∷ 0xfb ∷ 0xf4 ∷ 0xc8 ∷ 0x99 ∷ 0x6f ∷ 0xb9 ∷ 0x24 ∷
    0x27 ∷ 0xae ∷ 0x41 ∷ 0xe4 ∷ 0x64 ∷ 0x9b ∷ 0x93 ∷ 0x4c ∷ 0xa4 ∷ 0x95 ∷ 0x99 ∷ 0x1b ∷ 0x78 ∷ 0x52 ∷ 0xb8 ∷ 0x55 ∷ []
unfolding constants initial padding padded part number_at word schedule shifted round rounds sums compressed hashed
    joined sha256
empty = refl

-- "abc"
abc : sha256 (letters 97 3) ≡
    0xba ∷ 0x78 ∷ 0x16 ∷ 0xbf ∷ 0x8f ∷ 0x01 ∷ 0xcf ∷ 0xea ∷ 0x41 ∷ 0x41 ∷ 0x40 ∷ 0xde ∷ 0x5d ∷ 0xae ∷ 0x22 ∷ 0x23 ∷
    0xb0 ∷ 0x03 ∷ 0x61 ∷ 0xa3 ∷ 0x96 ∷ 0x17 ∷ 0x7a ∷ 0x9c ∷ 0xb4 ∷ 0x10 ∷ 0xff ∷ 0x61 ∷ 0xf2 ∷ 0x00 ∷ 0x15 ∷ 0xad ∷ []
unfolding constants initial padding padded part number_at word schedule shifted round rounds sums compressed hashed
    joined sha256 letters
abc = refl

-- the 448-bit message, "abcdbcdecdef..nopq"
two_blocks : sha256 (runs 4 97 14) ≡
    0x24 ∷ 0x8d ∷ 0x6a ∷ 0x61 ∷ 0xd2 ∷ 0x06 ∷ 0x38 ∷ 0xb8 ∷ 0xe5 ∷ 0xc0 ∷ 0x26 ∷ 0x93 ∷ 0x0c ∷ 0x3e ∷ 0x60 ∷ 0x39 ∷
    0xa3 ∷ 0x3c ∷ 0xe4 ∷ 0x59 ∷ 0x64 ∷ 0xff ∷ 0x21 ∷ 0x67 ∷ 0xf6 ∷ 0xec ∷ 0xed ∷ 0xd4 ∷ 0x19 ∷ 0xdb ∷ 0x06 ∷ 0xc1 ∷ []
unfolding constants initial padding padded part number_at word schedule shifted round rounds sums compressed hashed
    joined sha256 letters runs
two_blocks = refl

-- the 896-bit message, "abcdefghbcdefghi..nopqrstu"
long_runs : sha256 (runs 8 97 14) ≡
    0xcf ∷ 0x5b ∷ 0x16 ∷ 0xa7 ∷ 0x78 ∷ 0xaf ∷ 0x83 ∷ 0x80 ∷ 0x03 ∷ 0x6c ∷ 0xe5 ∷ 0x9e ∷ 0x7b ∷ 0x04 ∷ 0x92 ∷ 0x37 ∷
    0x0b ∷ 0x24 ∷ 0x9b ∷ 0x11 ∷ 0xe8 ∷ 0xf0 ∷ 0x7a ∷ 0x51 ∷ 0xaf ∷ 0xac ∷ 0x45 ∷ 0x03 ∷ 0x7a ∷ 0xfe ∷ 0xe9 ∷ 0xd1 ∷ []
unfolding constants initial padding padded part number_at word schedule shifted round rounds sums compressed hashed
    joined sha256 letters runs
long_runs = refl
