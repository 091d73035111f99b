-- A run labelled in one pass from the right, with a slot for each level: slot l above 0 holds the right side of a
-- node of level l that still waits for its lower side, slot 0 the right side at level 0. A slot that is not open
-- holds the empty side.
-- Assumes nothing.
use Rattle.std.specs.Prelude.{ℕ, zero, suc, Bool, cond, List, [], ◌∷◌, set, get_or, replicate}
use Rattle.skiplist.specs.Row.{Item, Column}
use Rattle.skiplist.specs.Sides.{Sides}
use Rattle.skiplist.specs.Entry.{Entry, down}

-- `vacant` tells the empty side from the others
module _ {S : Type 0} (𝓢 : Sides S) (vacant : S → Bool) where
  abbrev pub slot : List S → ℕ → S
  slot s l = get_or s l 𝓢.none

  -- slots for the levels 0 to h, none of them open
  unfoldable pub no_slots : ℕ → List S
  no_slots h = replicate (suc h) 𝓢.none

  abbrev pub over : ℕ → S → S → S
  over l t s = cond (vacant s) t (𝓢.node l t s)

  -- the side t below the nodes of the open slots 1 to h
  unfoldable pub sealed : List S → ℕ → S → S
  sealed s zero t = t
  sealed s (suc l) t = over (suc l) (sealed s l t) (slot s (suc l))

  -- the slots 0 to h shut
  unfoldable pub shut : List S → ℕ → List S
  shut s zero = set s 0 𝓢.none
  shut s (suc l) = set (shut s l) (suc l) 𝓢.none

  -- a column of height h in front: its leaf, below what is open up to h, waits in slot h
  unfoldable pub with_column : List S → ℕ → Item → List S
  with_column s h c = set (shut s h) h (sealed s h (𝓢.leaf c (slot s 0)))

  -- the slots in front of a run whose heights are at most h
  unfoldable pub slots : ℕ → List Column → List S
  slots h [] = no_slots h
  slots h (d ∷ B) = with_column (slots h B) d.height d.item

  -- the open slots 1 to h as entries, the highest first
  unfoldable pub open_slots : List S → ℕ → List (Entry S)
  open_slots s zero = []
  open_slots s (suc l) = cond (vacant (slot s (suc l))) (open_slots s l) (down (suc l) (slot s (suc l)) ∷ open_slots s l)
