-- Cases on which of two numbers is greater, what a decided test says, what two tests say together, and what never is.
use Prim.Native.Nat.{ℕ, ◌≤◌, ◌<◌}
use native.Mathlib.Omega.{arith}
use native.Mathlib.Decide.{dec_lt}
use mathlib.Core.Path.{◌≡◌, refl}
use mathlib.Core.Logic.{◌⊎◌, inl, inr}
use mathlib.Core.Bool.{Bool, true, false, ◌&&◌, ◌||◌, false≢true}
use Rattle.skiplist.specs.Equal.{is}

pub order : (h l : ℕ) → (h < l) ⊎ (l ≤ h)
order h l = go (dec_lt h l)
  where
    go : Dec (h < l) → (h < l) ⊎ (l ≤ h)
    go (yes p) = inl p
    go (no p) = inr (omega arith)

pub is_yes : {A : Type 0} (d : Dec A) → A → is d ≡ true
is_yes (yes a) b = refl
is_yes (no a) b = absurd (a b)

pub is-true : {A : Type 0} (d : Dec A) → is d ≡ true → A
is-true (yes a) e = a
is-true (no a) e = absurd (false≢true e)

-- what `cc` makes of two constructors that are said to be equal
pub never : {P : Type 0} → ◌≡◌ {A = ℕ} 0 1 → P
never z = absurd (omega arith)

-- two tests
pub both : (a b : Bool) → (a && b) ≡ true → (a ≡ true) × (b ≡ true)
both true b e = (refl, e)
both false b e = never cc

pub neither : (a b : Bool) → (a || b) ≡ false → (a ≡ false) × (b ≡ false)
neither true b e = never cc
neither false b e = (refl, e)
