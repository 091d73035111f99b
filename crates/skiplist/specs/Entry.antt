-- The entries of a path and its stop, over any kind S of sides, and the rule on their levels.
-- Assumes nothing.
use Rattle.std.specs.Prelude.{ℕ, pred, ◌≤◌, List, [], ◌∷◌, map}
use Rattle.skiplist.specs.Row.{Item}

-- "Kind 0, down: .. the right side." "Kind 1, right: .. the lower side." "Kind 1, level 0: .. the leaf passed."
pub data Entry (S : Type 0) : Type 0 where
  down : ℕ → S → Entry S
  right : ℕ → S → Entry S
  pass : Item → Entry S

-- entries from the root, and the stop: the leaf's item and its right side
pub record Place (S : Type 0) : Type 0 where
  pub entries : List (Entry S)
  pub item : Item
  pub side : S

-- one more entry above a place
abbrev pub under : {S : Type 0} → Entry S → Place S → Place S
under e z = record { entries = e ∷ z.entries; item = z.item; side = z.side }

-- the same path with other things standing for its sides
abbrev pub map_entry : {S R : Type 0} → (S → R) → Entry S → Entry R
map_entry f (down l s) = down l (f s)
map_entry f (right l s) = right l (f s)
map_entry f (pass c) = pass c

abbrev pub map_place : {S R : Type 0} → (S → R) → Place S → Place R
map_place f z = record { entries = map (map_entry f) z.entries; item = z.item; side = f z.side }

module _ {S : Type 0} where
  abbrev pub level : Entry S → ℕ
  level (down l s) = l
  level (right l s) = l
  level (pass c) = 0

  -- "After a down entry the next level is lower; after a right entry it is no higher." The first level is at most h;
  -- down entries and right entries with a lower side have level 1 or more.
  abbrev pub Falls : ℕ → List (Entry S) → Type 0
  Falls h [] = Unit {0}
  Falls h (down l s ∷ p) = (1 ≤ l) × (l ≤ h) × Falls (pred l) p
  Falls h (right l s ∷ p) = (1 ≤ l) × (l ≤ h) × Falls l p
  Falls h (pass c ∷ p) = Falls 0 p
