-- What Replace and Insert make of the entries and the stop of one proof, over any kind of sides: on trees the edited
-- row's tree, on labels the new metadata (Theorems: honest-replaced, honest-inserted).
-- Assumes nothing.
use Rattle.std.specs.Prelude.{ℕ, zero, suc, Bool, cond, List, [], ◌∷◌, ltb, leb}
use Rattle.skiplist.specs.Row.{Item, Column}
use Rattle.skiplist.specs.Sides.{Sides}
use Rattle.skiplist.specs.Entry.{Entry, down, right, pass, Place}
use Rattle.skiplist.specs.Recompute.{plug}
use Rattle.skiplist.specs.Merge.{rights, downs}

module _ {S : Type 0} where
  -- "Insert at height h keeps entries from the root while their level is above h, or is h and they go right."
  abbrev pub keeps : ℕ → Entry S → Bool
  keeps h (down l s) = ltb h l
  keeps h (right l s) = leb h l
  keeps h (pass c) = leb h 0

  abbrev pub kept : ℕ → List (Entry S) → List (Entry S)
  kept h [] = []
  kept h (e ∷ p) = cond (keeps h e) (e ∷ kept h p) []

  abbrev pub remaining : ℕ → List (Entry S) → List (Entry S)
  remaining h [] = []
  remaining h (e ∷ p) = cond (keeps h e) (remaining h p) (e ∷ p)

module _ {S : Type 0} (𝓢 : Sides S) where
  -- "Replace puts the new tag in the stop."
  abbrev pub replaced : Item → Place S → S
  replaced x z = plug 𝓢 z.entries (𝓢.leaf x z.side)

  -- "Below them, for h = 0, comes the stop's leaf and at its right the new leaf with the stop's right side; for h
  -- above 0, a node of level h: its lower side is the remaining right entries ending in the stop's leaf with an empty
  -- right side, its right side the remaining down entries ending in the new leaf with the stop's right side." The new
  -- leaf holds x; p are the remaining entries.
  abbrev pub seated : ℕ → Item → List (Entry S) → Item → S → S
  seated zero x p c r = 𝓢.leaf c (𝓢.leaf x r)
  seated (suc h) x p c r = 𝓢.node (suc h) (plug 𝓢 (rights p) (𝓢.leaf c 𝓢.none)) (plug 𝓢 (downs p) (𝓢.leaf x r))

  abbrev pub inserted : Column → Place S → S
  inserted x z =
      plug 𝓢 (kept x.height z.entries)
      (seated x.height x.item (remaining x.height z.entries) z.item z.side)
