-- The language's count of trailing zero bits, cut at k, is the definition's.
-- Assumes nothing.
use Rattle.std.proofs.Common.{◌≡◌, ℕ, zero, suc, ◌/◌, ◌%◌, ◌<◌, ◌≤◌, cond, eqb, refl, ap, le_of_suc-le-suc, not-suc-le-zero, arith, ne_eqb}
use lib.Count.{count_trailing_zeros, under}
use Rattle.labels.specs.Heights.{trailing}

-- the count n is z where it is below k, and else k is
abbrev Cut : ℕ → ℕ → ℕ → Type 0
Cut k n z = (n < k → n ≡ z) × (k ≤ n → k ≡ z)

cut_step : (r n z k : ℕ) → Cut k n z → Cut (suc k) (under r n) (cond (eqb r 0) (suc z) 0)
cut_step zero n z k s = ((λ h. ap suc (s.0 (le_of_suc-le-suc h))), (λ h. ap suc (s.1 (le_of_suc-le-suc h))))
cut_step (suc d) n z k s =
    let e : suc d ≡ 0 → ⊥ = λ q. omega arith in
    ((λ h. rw (ne_eqb (suc d) 0 e)), (λ h. absurd (not-suc-le-zero h)))

pub cut : (k w : ℕ) → Cut k (count_trailing_zeros (suc k) w) (trailing k w)
unfolding count_trailing_zeros trailing
cut zero w = ((λ h. absurd (not-suc-le-zero h)), (λ h. refl))
cut (suc k) w = cut_step (w % 2) (count_trailing_zeros (suc k) (w / 2)) (trailing k (w / 2)) k (cut k (w / 2))
