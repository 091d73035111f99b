-- Counters of a run's columns, by height: what one pass over the heights keeps.
-- Assumes nothing.
use Rattle.std.specs.Prelude.{ℕ, zero, suc, ◌+◌, ◌-◌, ◌≡◌, cond, List, [], ◌∷◌, ◌++◌, leb, ltb, length, get_or}
use Rattle.skiplist.specs.Row.{Column}
use Rattle.skiplist.specs.Length.{right_columns, down_columns, entry_count}
use Rattle.skiplist.specs.Blocks.{row}
use Rattle.archive.specs.Reading.{count_of, blocks_from}

-- of the columns of a run, those of height h or more: how many
abbrev pub at_least : ℕ → List Column → ℕ
at_least h [] = 0
at_least h (d ∷ A) = cond (leb h d.height) (suc (at_least h A)) (at_least h A)

-- the right entries past columns of height h or more, where A ends at the position
abbrev pub rights_from : List Column → ℕ → ℕ
rights_from A h = at_least h (right_columns A)

-- the down entries of a level above h, where B follows the position
abbrev pub downs_above : List Column → ℕ → ℕ
downs_above B h = length (down_columns h B)

-- counters m for each height hold what f says
abbrev pub Counts : (ℕ → ℕ) → List ℕ → Type 0
Counts f m = (h : ℕ) → get_or m h 0 ≡ f h

-- the first k counters of m raised to one more than counter h
abbrev pub Raised : List ℕ → ℕ → ℕ → List ℕ → Type 0
Raised m h k r = (l : ℕ) → get_or r l 0 ≡ cond (ltb l k) (get_or m h 0 + 1) (get_or m l 0)

-- for each column of a run, the down entries of the path to it
unfoldable pub downs_of : List Column → List ℕ
downs_of [] = []
downs_of (d ∷ B) = downs_above B 0 ∷ downs_of B

-- the columns of an image that have i others before them
abbrev pub columns_from : List ℕ → ℕ → List Column
columns_from b i = row (blocks_from b i (count_of b - i))

-- the entries of the paths to an image's first i blocks
unfoldable pub entries_up_to : List ℕ → ℕ → List ℕ
entries_up_to b zero = []
entries_up_to b (suc i) = entries_up_to b i ++ (entry_count (row (blocks_from b 0 (suc i))) (columns_from b (suc i)) ∷ [])
