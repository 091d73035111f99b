-- What a leaf may hold, by where it stands: `Fit true c` where it is the first of all (no right entry comes before),
-- `Fit false c` elsewhere. One such rule says what archives keep, another what proofs may send.
-- Assumes nothing.
use Rattle.std.specs.Prelude.{Bool, false, List, [], ◌∷◌}
use Rattle.skiplist.specs.Row.{Item, Column}
use Rattle.skiplist.specs.Entry.{Entry, down, right, pass}

module _ (Fit : Bool → Item → Type 0) where
  -- the columns of a run
  abbrev pub AllFit : List Column → Type 0
  AllFit [] = Unit {0}
  AllFit (d ∷ R) = Fit false d.item × AllFit R

  -- the leaves that a path passes, and its stop's
  abbrev pub Fits : {S : Type 0} → Bool → List (Entry S) → Item → Type 0
  Fits f [] c = Fit f c
  Fits f (down l s ∷ p) c = Fits f p c
  Fits f (right l s ∷ p) c = Fits false p c
  Fits f (pass d ∷ p) c = Fit f d × Fits false p c
