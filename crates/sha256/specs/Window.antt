-- What stands before a round of FIPS 180-4, section 6.2.2, when no more than sixteen words of the message schedule are held.
-- Assumes nothing.
use Rattle.std.specs.Prelude.{◌≡◌, ℕ, ◌-◌, List}
use Rattle.octets.specs.Runs.{part}
use Rattle.sha256.specs.Hash.{schedule, rounds}

-- before round t, 16 to 64, of the block b: s are the working variables after the first t rounds from the hash value v, and w the
-- sixteen words before the round's own
pub record Before (b v : List ℕ) (t : ℕ) (s w : List ℕ) : Type 0 where
  pub variables : s ≡ rounds (schedule b 64) v t
  pub words : w ≡ part (schedule b 64) (t - 16) 16
