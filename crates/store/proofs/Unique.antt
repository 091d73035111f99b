-- Two outcomes that satisfy a pledge of this crate are equal: the answers, and the lent bytes after the call.
-- Assumes nothing.
use Prim.Native.Nat.{ℕ}
use mathlib.Core.Path.{◌≡◌, sym, ◌∙◌}
use mathlib.Core.List.{List}
use Rattle.commands.specs.declared.Command.{Command}
use Rattle.store.specs.declared.Checked.{Checked}
use Rattle.store.specs.declared.Proved.{Proved}
use Rattle.store.specs.declared.Applied.{Applied}
use Rattle.store.specs.Pledges.{Checks, Proves, Applies}

pub check_unique : (b : List ℕ) (r s : Checked) → Checks b r → Checks b s → r ≡ s
check_unique b r s p q =
    λ i. record { verdict = (p.verdict ∙ sym q.verdict) i; metadata = (p.metadata ∙ sym q.metadata) i }

pub prove_unique : (b : List ℕ) (n : ℕ) (lent : List ℕ) (at : ℕ) (r s : Proved) (x y : List ℕ) → Proves b n lent at r x
    → Proves b n lent at s y → (r ≡ s) × (x ≡ y)
prove_unique b n lent at r s x y p q = (
  λ i. record {
    verdict = (p.verdict ∙ sym q.verdict) i;
    length = (p.bytes ∙ sym q.bytes) i;
    entries = (p.entries ∙ sym q.entries) i;
  },
  p.buffer ∙ sym q.buffer,
)

pub apply_unique : (b : List ℕ) (k : Command) (r s : Applied) (x y : List ℕ) → Applies b k r x → Applies b k s y
    → (r ≡ s) × (x ≡ y)
apply_unique b k r s x y p q = (
  λ i. record { verdict = (p.verdict ∙ sym q.verdict) i; count = (p.count ∙ sym q.count) i },
  p.image ∙ sym q.image,
)
