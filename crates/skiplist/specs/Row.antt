-- "The archive is a row of columns. Column 0, the head, owns no block." A run is a list of columns, and a row is the
-- head's item with the run of all blocks' columns. A leaf may weigh any number and have any third here; `Blocks` puts
-- document 01's in.
-- Assumes nothing.
use Rattle.std.specs.Prelude.{ℕ, ◌+◌, ◌≤◌, ◌<◌, List, [], ◌∷◌}

-- what a leaf holds: its own, which is counted in ranks, and the message that is hashed as its third
pub record Item : Type 0 where
  pub own : ℕ
  pub third : List ℕ

pub record Column : Type 0 where
  pub height : ℕ
  pub item : Item

-- every height of a run is at most h; is below h
abbrev pub AtMost : ℕ → List Column → Type 0
AtMost h [] = Unit {0}
AtMost h (d ∷ R) = (d.height ≤ h) × AtMost h R

abbrev pub Below : ℕ → List Column → Type 0
Below h [] = Unit {0}
Below h (d ∷ R) = (d.height < h) × Below h R

-- what the columns of a run weigh together
abbrev pub weights : List Column → ℕ
weights [] = 0
weights (d ∷ R) = d.item.own + weights R

-- the item of the last column of c followed by the run A
abbrev pub last_of : Item → List Column → Item
last_of c [] = c
last_of c (d ∷ A) = last_of d.item A
