-- Two outcomes that satisfy the pledge are equal: the answers, and the lent bytes after the call.
-- Assumes nothing.
use Prim.Native.Nat.{ℕ}
use mathlib.Core.Path.{◌≡◌, sym, ◌∙◌}
use mathlib.Core.List.{List}
use Rattle.store.specs.declared.Proved.{Proved}
use Rattle.jointstore.specs.Pledges.{Proves}

pub prove_unique : (b ps lent : List ℕ) (at : ℕ) (r s : Proved) (x y : List ℕ) → Proves b ps lent at r x
    → Proves b ps lent at s y → (r ≡ s) × (x ≡ y)
prove_unique b ps lent at r s x y p q = (
  λ i. record {
    verdict = (p.verdict ∙ sym q.verdict) i;
    length = (p.bytes ∙ sym q.bytes) i;
    entries = (p.entries ∙ sym q.entries) i;
  },
  p.buffer ∙ sym q.buffer,
)
