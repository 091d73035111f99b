-- What FIPS 180-4 says of its constants: "the first thirty-two bits of the fractional parts of the cube roots of the
-- first sixty-four prime numbers" (4.2.2), and of the square roots of the first eight (5.3.3). A test over a whole table.
-- Assumes nothing.
use Rattle.std.specs.Prelude.{ℕ, zero, suc, ◌+◌, ◌*◌, ◌%◌, ◌^◌, Bool, true, false, cond, ◌&&◌, List, [], ◌∷◌, ◌++◌, ◌==◌, nat_le, nat_lt}

-- does none of the k numbers from 2 on divide n?
unfoldable pub undivided : ℕ → ℕ → Bool
undivided n zero = true
undivided n (suc k) = cond (n % suc (suc k) == 0) false (undivided n k)

-- a prime is 2 or more, and none of the numbers from 2 to n - 1 divides it
unfoldable pub prime : ℕ → Bool
prime zero = false
prime (suc zero) = false
prime (suc (suc k)) = undivided (suc (suc k)) k

-- the primes below n, in their order
unfoldable pub primes_below : ℕ → List ℕ
primes_below zero = []
primes_below (suc n) = cond (prime n) (primes_below n ++ (n ∷ [])) (primes_below n)

-- is r the e-th root of n, rounded down?
unfoldable pub is_root : ℕ → ℕ → ℕ → Bool
is_root e n r = nat_le (r ^ e) n && nat_lt n ((r + 1) ^ e)

-- are the 32 bits x the first of the fractional part of p's e-th root? Some whole part, here below w, stands in front
-- of them: whole part and bits together are the root of p * 2 ^ (32 * e), rounded down
unfoldable pub is_fraction : ℕ → ℕ → ℕ → ℕ → Bool
is_fraction e p x zero = false
is_fraction e p x (suc w) = cond (is_root e (p * 2 ^ (32 * e)) (w * 2 ^ 32 + x)) true (is_fraction e p x w)

-- is each word of a table such a fraction, of one prime after the other? Whole parts are below 32 for p below 32 ^ 2
unfoldable pub are_fractions : ℕ → List ℕ → List ℕ → Bool
are_fractions e ps [] = true
are_fractions e [] (x ∷ xs) = false
are_fractions e (p ∷ ps) (x ∷ xs) = nat_lt x (2 ^ 32) && (is_fraction e p x 32 && are_fractions e ps xs)
