-- The positions that a joint proof is asked for.
-- Assumes nothing.
use Rattle.std.specs.Prelude.{ℕ, Bool, true, ◌&&◌, List, [], ◌∷◌, leb, ltb, length}
use Rattle.std.specs.List.{list_all}
use Rattle.jointbytes.specs.Layout.{most_positions}

-- each is above the one before, the first above p
unfoldable pub rises : ℕ → List ℕ → Bool
rises p [] = true
rises p (q ∷ ps) = ltb p q && rises q ps

abbrev pub rising : List ℕ → Bool
rising [] = true
rising (p ∷ ps) = rises p ps

-- not 13: "positions too few, too many or not rising"
abbrev pub is_set : List ℕ → Bool
is_set ps = leb 1 (length ps) && (leb (length ps) most_positions && rising ps)

-- not 2: "each 1 to n"
unfoldable pub within : ℕ → List ℕ → Bool
within n ps = list_all (λ p. leb 1 p && leb p n) ps
