-- Two outcomes that satisfy a pledge of this crate are equal, in the answer and in every lent byte.
-- Assumes nothing.
use Prim.Native.Nat.{ℕ}
use mathlib.Core.Path.{◌≡◌, sym, ◌∙◌}
use mathlib.Core.List.{List}
use Rattle.quaythistle.specs.declared.plain.QtDigest.{QtDigest}
use Rattle.quaythistle.specs.declared.plain.QtMetadata.{QtMetadata}
use Rattle.quaythistle.specs.declared.plain.QtCommand.{QtCommand}
use Rattle.quaythistle.specs.declared.plain.QtFiling.{QtFiling}
use Rattle.quaythistle.specs.declared.QtDigested.{QtDigested}
use Rattle.quaythistle.specs.declared.QtMatched.{QtMatched}
use Rattle.quaythistle.specs.declared.QtMetadataAnswer.{QtMetadataAnswer}
use Rattle.quaythistle.specs.declared.QtProved.{QtProved}
use Rattle.quaythistle.specs.declared.QtCounted.{QtCounted}
use Rattle.quaythistle.specs.declared.QtSaved.{QtSaved}
use Rattle.quaythistle.specs.declared.QtAnswer.{QtAnswer}
use Rattle.quaythistle.specs.declared.QtJointAnswer.{QtJointAnswer}
use Rattle.quaythistle.specs.Pledges.{Digests, Tags, Matches, Draws, Checks, Proves, Applies, Shapes, Saves, Loads, Answers}
use Rattle.quaythistle.specs.Pledges.{Files, Places, ProvesJointly, AnswersJointly}

pub digest_unique : (m : List ℕ) (r s : QtDigested) → Digests m r → Digests m s → r ≡ s
digest_unique m r s p q = λ i. record { verdict = (p.verdict ∙ sym q.verdict) i; digest = (p.digest ∙ sym q.digest) i }

pub tag_unique : (time : ℕ) (readings : List ℕ) (r s : QtDigested) → Tags time readings r → Tags time readings s → r ≡ s
tag_unique time readings r s p q = λ i. record { verdict = (p.verdict ∙ sym q.verdict) i; digest = (p.digest ∙ sym q.digest) i }

pub match_unique : (tag : QtDigest) (time : ℕ) (readings : List ℕ) (r s : QtMatched) → Matches tag time readings r
    → Matches tag time readings s → r ≡ s
match_unique tag time readings r s p q = λ i. record { verdict = (p.verdict ∙ sym q.verdict) i; yes = (p.yes ∙ sym q.yes) i }

pub height_unique : (word r s : ℕ) → Draws word r → Draws word s → r ≡ s
height_unique word r s p q = p.height ∙ sym q.height

pub check_unique : (b : List ℕ) (r s : QtMetadataAnswer) → Checks b r → Checks b s → r ≡ s
check_unique b r s p q = λ i. record { verdict = (p.verdict ∙ sym q.verdict) i; metadata = (p.metadata ∙ sym q.metadata) i }

pub prove_unique
    : (b : List ℕ) (p : ℕ) (lent : List ℕ) (at : ℕ) (r s : QtProved) (x y : List ℕ) → Proves b p lent at r x → Proves b p lent at s y
    → (r ≡ s) × (x ≡ y)
prove_unique b p lent at r s x y f g = (
  λ i. record {
    verdict = (f.verdict ∙ sym g.verdict) i;
    length = (f.bytes ∙ sym g.bytes) i;
    entries = (f.entries ∙ sym g.entries) i;
  },
  f.buffer ∙ sym g.buffer,
)

pub apply_unique
    : (b : List ℕ) (k : QtCommand) (r s : QtCounted) (x y : List ℕ) → Applies b k r x → Applies b k s y → (r ≡ s) × (x ≡ y)
apply_unique b k r s x y p q =
    (λ i. record { verdict = (p.verdict ∙ sym q.verdict) i; count = (p.count ∙ sym q.count) i }, p.image ∙ sym q.image)

pub shape_unique
    : (b lent : List ℕ) (r s : QtCounted) (x y : List ℕ) → Shapes b lent r x → Shapes b lent s y → (r ≡ s) × (x ≡ y)
shape_unique b lent r s x y p q =
    (λ i. record { verdict = (p.verdict ∙ sym q.verdict) i; count = (p.count ∙ sym q.count) i }, p.entries ∙ sym q.entries)

pub save_unique : (m : QtMetadata) (r s : QtSaved) → Saves m r → Saves m s → r ≡ s
save_unique m r s p q = λ i. record { verdict = (p.verdict ∙ sym q.verdict) i; bytes = (p.bytes ∙ sym q.bytes) i }

pub load_unique : (saved : List ℕ) (r s : QtMetadataAnswer) → Loads saved r → Loads saved s → r ≡ s
load_unique saved r s p q = λ i. record { verdict = (p.verdict ∙ sym q.verdict) i; metadata = (p.metadata ∙ sym q.metadata) i }

pub answer_unique
    : (m : QtMetadata) (k : QtCommand) (first second : List ℕ) (r s : QtAnswer) → Answers m k first second r → Answers m k first second s
    → r ≡ s
answer_unique m k first second r s p q =
    λ i. record {
      verdict = (p.verdict ∙ sym q.verdict) i;
      tag = (p.tag ∙ sym q.tag) i;
      metadata = (p.metadata ∙ sym q.metadata) i;
    }

pub file_unique
    : (m : QtMetadata) (f : QtFiling) (readings left right first second : List ℕ) (r s : QtAnswer)
    → Files m f readings left right first second r
    → Files m f readings left right first second s
    → r ≡ s
file_unique m f readings left right first second r s p q =
    λ i. record {
      verdict = (p.verdict ∙ sym q.verdict) i;
      tag = (p.tag ∙ sym q.tag) i;
      metadata = (p.metadata ∙ sym q.metadata) i;
    }

pub place_unique : (times : List ℕ) (time r s : ℕ) → Places times time r → Places times time s → r ≡ s
place_unique times time r s p q = p.place ∙ sym q.place

pub prove_jointly_unique
    : (b ps lent : List ℕ) (at : ℕ) (r s : QtProved) (x y : List ℕ) → ProvesJointly b ps lent at r x → ProvesJointly b ps lent at s y
    → (r ≡ s) × (x ≡ y)
prove_jointly_unique b ps lent at r s x y f g = (
  λ i. record {
    verdict = (f.verdict ∙ sym g.verdict) i;
    length = (f.bytes ∙ sym g.bytes) i;
    entries = (f.entries ∙ sym g.entries) i;
  },
  f.buffer ∙ sym g.buffer,
)

pub answer_jointly_unique
    : (m : QtMetadata) (ps proof : List ℕ) (r s : QtJointAnswer) → AnswersJointly m ps proof r → AnswersJointly m ps proof s → r ≡ s
answer_jointly_unique m ps proof r s p q =
    λ i. record {
      verdict = (p.verdict ∙ sym q.verdict) i;
      number = (p.number ∙ sym q.number) i;
      tags = (p.tags ∙ sym q.tags) i;
      metadata = (p.metadata ∙ sym q.metadata) i;
    }
