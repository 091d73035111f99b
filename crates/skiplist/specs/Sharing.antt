-- How far the paths to two columns of one row go together, by heights alone (SharedLaws: parted, ways_parted). A are the
-- columns up to the earlier one, B those after it up to the later one, C those after that.
-- Assumes nothing.
use Rattle.std.specs.Prelude.{ℕ, ◌+◌, ◌-◌, ◌≡◌, List, [], ◌∷◌, ◌++◌, length}
use Rattle.skiplist.specs.Row.{Column}
use Rattle.skiplist.specs.Entry.{Entry, down, right, pass}
use Rattle.skiplist.specs.Length.{tallest, right_columns, down_columns}

-- the right columns of A ++ B that stand in A, and the down columns of C above the tallest of B
abbrev pub shared_count : List Column → List Column → List Column → ℕ
shared_count A B C =
    (length (right_columns (A ++ B)) - length (right_columns B)) + length (down_columns (tallest B) C)

-- the path to the earlier column stops here or goes down; the path to the later one goes right
abbrev pub Stays : {S : Type 0} → List (Entry S) → Type 0
Stays [] = Unit {0}
Stays (down l s ∷ p) = Unit {0}
Stays (right l s ∷ p) = ⊥
Stays (pass c ∷ p) = ⊥

abbrev pub Crosses : {S : Type 0} → List (Entry S) → Type 0
Crosses [] = ⊥
Crosses (down l s ∷ p) = ⊥
Crosses (right l s ∷ p) = Unit {0}
Crosses (pass c ∷ p) = Unit {0}

-- two paths that share exactly n entries and part after them
pub record Parted {S : Type 0} (xs ys : List (Entry S)) (n : ℕ) : Type 0 where
  pub common : List (Entry S)
  pub stays : List (Entry S)
  pub crosses : List (Entry S)
  pub first : xs ≡ common ++ stays
  pub second : ys ≡ common ++ crosses
  pub size : length common ≡ n
  pub stay : Stays stays
  pub cross : Crosses crosses
