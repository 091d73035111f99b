-- A round, eight rounds, and the sums that end a block, from the values that the code computes.
-- Assumes nothing.
use Rattle.std.proofs.Common.{◌≡◌, ℕ, suc, ◌+◌, ◌%◌, ◌^◌, List, [], ◌∷◌, get_or}
use Rattle.sha256.specs.Constants.{constants}
use Rattle.sha256.specs.Hash.{first_sum, second_sum, shifted, round, rounds, sums, schedule, compressed}

pub round_made : (s : List ℕ) (k w t1 t2 a e : ℕ)
    → t1 ≡ first_sum (get_or s 4 0) (get_or s 5 0) (get_or s 6 0) (get_or s 7 0) k w
    → t2 ≡ second_sum (get_or s 0 0) (get_or s 1 0) (get_or s 2 0) → a ≡ (t1 + t2) % 2 ^ 32 → e ≡ (get_or s 3 0 + t1) % 2 ^ 32
    → a ∷ get_or s 0 0 ∷ get_or s 1 0 ∷ get_or s 2 0 ∷ e ∷ get_or s 4 0 ∷ get_or s 5 0 ∷ get_or s 6 0 ∷ [] ≡ round s k w
unfolding round shifted
round_made s k w t1 t2 a e p q r u = cc

pub sums_made : (s v : List ℕ) (a b c d e f g h : ℕ)
    → a ≡ (get_or v 0 0 + get_or s 0 0) % 2 ^ 32 → b ≡ (get_or v 1 0 + get_or s 1 0) % 2 ^ 32
    → c ≡ (get_or v 2 0 + get_or s 2 0) % 2 ^ 32 → d ≡ (get_or v 3 0 + get_or s 3 0) % 2 ^ 32
    → e ≡ (get_or v 4 0 + get_or s 4 0) % 2 ^ 32 → f ≡ (get_or v 5 0 + get_or s 5 0) % 2 ^ 32
    → g ≡ (get_or v 6 0 + get_or s 6 0) % 2 ^ 32 → h ≡ (get_or v 7 0 + get_or s 7 0) % 2 ^ 32
    → a ∷ b ∷ c ∷ d ∷ e ∷ f ∷ g ∷ h ∷ [] ≡ sums s v
unfolding sums
sums_made s v a b c d e f g h p0 p1 p2 p3 p4 p5 p6 p7 = cc

-- one round more
pub round_more : (w v s r : List ℕ) (t k : ℕ) → k ≡ get_or constants t 0 → r ≡ round s k (get_or w t 0) → s ≡ rounds w v t
    → r ≡ rounds w v (suc t)
unfolding rounds
round_more w v s r t k ek er e = cc

pub compressed_made : (s b v r : List ℕ) → v ≡ rounds (schedule b 64) s 64 → r ≡ sums s v → r ≡ compressed s b
unfolding compressed
compressed_made s b v r q u = cc
