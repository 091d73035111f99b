-- Two answers that satisfy a pledge of this crate are equal.
-- Assumes nothing.
use Rattle.std.proofs.Common.{◌≡◌, ℕ, List, sym, ◌∙◌}
use Rattle.labels.specs.declared.Tagged.{Tagged}
use Rattle.labels.specs.declared.Matched.{Matched}
use Rattle.labels.specs.Tags.{Tags, Matches}

pub tag_unique : (time : ℕ) (readings : List ℕ) (r s : Tagged) → Tags time readings r → Tags time readings s → r ≡ s
tag_unique time readings r s p q =
    λ i. record { verdict = (p.verdict ∙ sym q.verdict) i; tag = (p.tag ∙ sym q.tag) i }

pub match_unique : (tag : List ℕ) (time : ℕ) (readings : List ℕ) (r s : Matched) → Matches tag time readings r
    → Matches tag time readings s → r ≡ s
match_unique tag time readings r s p q =
    λ i. record { verdict = (p.verdict ∙ sym q.verdict) i; yes = (p.yes ∙ sym q.yes) i }
