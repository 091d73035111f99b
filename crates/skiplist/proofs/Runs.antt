-- Runs put together and taken apart: their heights, their weights, what their leaves hold, and their last column.
use Prim.Native.Nat.{ℕ, ◌+◌, ◌≤◌}
use native.Mathlib.Omega.{arith}
use mathlib.Core.Path.{◌≡◌, refl}
use mathlib.Core.List.{List, [], ◌∷◌, ◌++◌}
use Rattle.skiplist.specs.Row.{Item, Column, AtMost, Below, weights, last_of}

-- HEIGHTS
pub at_most_up : (g h : ℕ) (R : List Column) → g ≤ h → AtMost g R → AtMost h R
at_most_up g h [] k a = tt
at_most_up g h (d ∷ R) k a = (omega (arith, a.0), at_most_up g h R k a.1)

pub below-at_most : (g h : ℕ) (R : List Column) → g ≤ h → Below g R → AtMost h R
below-at_most g h [] k a = tt
below-at_most g h (d ∷ R) k a = (omega (arith, a.0), below-at_most g h R k a.1)

pub at_most-append : (h : ℕ) (A B : List Column) → AtMost h A → AtMost h B → AtMost h (A ++ B)
at_most-append h [] B a b = b
at_most-append h (d ∷ A) B a b = (a.0, at_most-append h A B a.1 b)

pub at_most_left : (h : ℕ) (A B : List Column) → AtMost h (A ++ B) → AtMost h A
at_most_left h [] B a = tt
at_most_left h (d ∷ A) B a = (a.0, at_most_left h A B a.1)

pub at_most-right : (h : ℕ) (A B : List Column) → AtMost h (A ++ B) → AtMost h B
at_most-right h [] B a = a
at_most-right h (d ∷ A) B a = at_most-right h A B a.1

-- WEIGHTS, LEAVES, THE LAST COLUMN
pub weights-append : (A B : List Column) → weights (A ++ B) ≡ weights A + weights B
weights-append [] B = omega arith
weights-append (d ∷ A) B = omega (arith, weights-append A B)

pub last-snoc : (c : Item) (A : List Column) (x : Column) → last_of c (A ++ x ∷ []) ≡ x.item
last-snoc c [] x = refl
last-snoc c (d ∷ A) x = last-snoc d.item A x
