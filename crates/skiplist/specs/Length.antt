-- The columns that a path has entries for, by heights alone: so the number of a path's entries needs no tree and no
-- label.
-- Assumes nothing.
use Rattle.std.specs.Prelude.{ℕ, ◌+◌, cond, List, [], ◌∷◌, ltb, length}
use Rattle.skiplist.specs.Row.{Column}

-- the greatest height of a run, 0 if it is empty
abbrev pub tallest : List Column → ℕ
tallest [] = 0
tallest (d ∷ A) = cond (ltb d.height (tallest A)) (tallest A) d.height

-- of the columns up to a position, those with no taller column after them: each has a right entry
abbrev pub right_columns : List Column → List Column
right_columns [] = []
right_columns (d ∷ A) = cond (ltb d.height (tallest A)) (right_columns A) (d ∷ right_columns A)

-- of the columns after a position, those of a height above h that are taller than all before them: for h = 0, each
-- has a down entry
abbrev pub down_columns : ℕ → List Column → List Column
down_columns h [] = []
down_columns h (d ∷ B) = cond (ltb h d.height) (d ∷ down_columns d.height B) (down_columns h B)

-- the number of entries in the path to the last column of A, where B follows
abbrev pub entry_count : List Column → List Column → ℕ
entry_count A B = length (right_columns A) + length (down_columns 0 B)
