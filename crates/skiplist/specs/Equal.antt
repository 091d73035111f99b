-- Whether two items, sides or entries are equal, decided.
-- Assumes nothing.
use Rattle.std.specs.Prelude.{ℕ, ◌≡◌, Bool, true, false, ◌&&◌, eqb}
use Rattle.std.proofs.Math.Decide.{ℕ_discrete}
use Rattle.std.proofs.Common.{ap}
use mathlib.Core.List.{List, List-discrete}
use Rattle.skiplist.specs.Row.{Item}
use Rattle.skiplist.specs.Entry.{Entry, down, right, pass}
use Rattle.skiplist.specs.Label.{Side}

-- what is decided, as a test
abbrev pub is : {A : Type 0} → Dec A → Bool
is (yes a) = true
is (no a) = false

-- two values that are equal where a number and a message of theirs are
by_parts : {A : Type 0} (number : A → ℕ) (message : A → List ℕ) (x y : A)
    → (number x ≡ number y → message x ≡ message y → x ≡ y) → Dec (x ≡ y)
by_parts number message x y made = go (ℕ_discrete (number x) (number y))
    (List-discrete ℕ_discrete (message x) (message y))
  where
    go : Dec (number x ≡ number y) → Dec (message x ≡ message y) → Dec (x ≡ y)
    go (yes p) (yes q) = yes (made p q)
    go (yes p) (no q) = no (λ e. q (ap message e))
    go (no p) q = no (λ e. p (ap number e))

pub item-discrete : Discrete Item
item-discrete c d = by_parts (λ x. x.own) (λ x. x.third) c d (λ p q i. record { own = p i; third = q i })

pub side-discrete : Discrete Side
side-discrete a b = by_parts (λ x. x.rank) (λ x. x.label) a b (λ p q i. record { rank = p i; label = q i })

-- are two entries equal?
module _ {S : Type 0} (eq : Discrete S) where
  abbrev pub same : Entry S → Entry S → Bool
  same (down l s) (down k t) = eqb l k && is (eq s t)
  same (down l s) (right k t) = false
  same (down l s) (pass d) = false
  same (right l s) (down k t) = false
  same (right l s) (right k t) = eqb l k && is (eq s t)
  same (right l s) (pass d) = false
  same (pass c) (down k t) = false
  same (pass c) (right k t) = false
  same (pass c) (pass d) = is (item-discrete c d)
