-- The right entries and the down entries of a path, and how the two make one path again.
-- Assumes nothing.
use Rattle.std.specs.Prelude.{Bool, true, false, cond, List, [], ◌∷◌, leb}
use Rattle.skiplist.specs.Entry.{Entry, down, right, pass, level}

module _ {S : Type 0} where
  abbrev pub rights : List (Entry S) → List (Entry S)
  rights [] = []
  rights (down l s ∷ p) = rights p
  rights (right l s ∷ p) = right l s ∷ rights p
  rights (pass c ∷ p) = pass c ∷ rights p

  abbrev pub downs : List (Entry S) → List (Entry S)
  downs [] = []
  downs (down l s ∷ p) = down l s ∷ downs p
  downs (right l s ∷ p) = downs p
  downs (pass c ∷ p) = downs p

  abbrev pub only_rights : List (Entry S) → Bool
  only_rights [] = true
  only_rights (down l s ∷ p) = false
  only_rights (right l s ∷ p) = only_rights p
  only_rights (pass c ∷ p) = only_rights p

  abbrev pub only_downs : List (Entry S) → Bool
  only_downs [] = true
  only_downs (down l s ∷ p) = only_downs p
  only_downs (right l s ∷ p) = false
  only_downs (pass c ∷ p) = false

  -- "by falling level, a right one first at equal level"
  abbrev pub merge : List (Entry S) → List (Entry S) → List (Entry S)
  merge [] ds = ds
  merge (e ∷ es) [] = e ∷ es
  merge (e ∷ es) (d ∷ ds) = cond (leb (level d) (level e)) (e ∷ merge es (d ∷ ds)) (d ∷ merge (e ∷ es) ds)
