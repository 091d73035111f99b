-- The constants are what FIPS 180-4 says of them, and the primes are counted: a test over each whole table, computed by the
-- checker.
-- Assumes nothing.
use Rattle.std.proofs.Common.{◌≡◌, T, length, refl}
use Rattle.sha256.specs.Constants.{constants, initial}
use Rattle.sha256.specs.Roots.{undivided, prime, primes_below, is_root, is_fraction, are_fractions}

-- the first sixty-four primes are those below 312, the first eight those below 20
pub sixty_four_primes : length (primes_below 312) ≡ 64
unfolding undivided prime primes_below
sixty_four_primes = refl

pub eight_primes : length (primes_below 20) ≡ 8
unfolding undivided prime primes_below
eight_primes = refl

-- 4.2.2
pub cube_roots : (length constants ≡ 64) × T (are_fractions 3 (primes_below 312) constants)
unfolding undivided prime primes_below is_root is_fraction are_fractions constants
cube_roots = (refl, tt)

-- 5.3.3
pub square_roots : (length initial ≡ 8) × T (are_fractions 2 (primes_below 20) initial)
unfolding undivided prime primes_below is_root is_fraction are_fractions initial
square_roots = (refl, tt)
