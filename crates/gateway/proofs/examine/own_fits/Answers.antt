-- "stop's own is not 1 (0 for position 0)".
-- Assumes nothing.
use Prim.Native.Nat.{ℕ, zero, suc}
use mathlib.Core.Path.{◌≡◌, refl}
use Rattle.skiplist.specs.Find.{own_at}
use Rattle.gateway.proofs.examine.own_fits.Goals as goal

-- "stop's own is not 1 (0 for position 0)".
-- Assumes nothing.
own-zero : (p : ℕ) → p ≡ 0 → own_at p ≡ 0
own-zero p e = rw e

own_one : (p : ℕ) → (p ≡ 0 → ⊥) → own_at p ≡ 1
own_one zero n = absurd (n refl)
own_one (suc p) n = refl

pub returns-then-p-eq0 : goal.returns-then-p-eq0
returns-then-p-eq0 c = rw (own-zero _ c.if-p-eq0.true)

pub returns-else-p-eq0 : goal.returns-else-p-eq0
returns-else-p-eq0 c = rw (own_one _ c.if-p-eq0.false)
