-- The path to a column, made from the row with no tree: its down entries and its stop's right side come from the
-- columns that follow, its right entries from the columns up to it (Theorems: place-whole, way_found, path_merge).
-- Assumes nothing.
use Rattle.std.specs.Prelude.{ℕ, zero, suc, cond, List, [], ◌∷◌, ltb}
use Rattle.skiplist.specs.Row.{Item, Column, last_of}
use Rattle.skiplist.specs.Tree.{Tree, empty, leaf, graft}
use Rattle.skiplist.specs.Sides.{Sides, trees}
use Rattle.skiplist.specs.Entry.{Entry, down, right, pass, Place, level}
use Rattle.skiplist.specs.Recompute.{plug}

-- A column that stands in front of the run B: its stop's right side, and the entries that go down to it from the
-- root. A column of height h comes in front of them: down entries of level h or lower are closed over its leaf, and
-- one of level h is opened.
module _ {S : Type 0} (𝓢 : Sides S) where
  abbrev pub opened : ℕ → S → List (Entry S)
  opened zero t = []
  opened (suc h) t = down (suc h) t ∷ []

  abbrev pub closed : ℕ → S → List (Entry S) → List (Entry S)
  closed h t [] = opened h t
  closed h t (e ∷ p) = cond (ltb h (level e)) (e ∷ closed h t p) (opened h (plug 𝓢 (e ∷ p) t))

  abbrev pub beside : ℕ → S → S
  beside zero t = t
  beside (suc h) t = 𝓢.none

  abbrev pub stop_side : List Column → S
  stop_side [] = 𝓢.none
  stop_side (d ∷ B) = beside d.height (𝓢.leaf d.item (stop_side B))

  abbrev pub down_entries : List Column → List (Entry S)
  down_entries [] = []
  down_entries (d ∷ B) = closed d.height (𝓢.leaf d.item (stop_side B)) (down_entries B)

-- Column c comes in front of a path in a tree whose first column has height h: an entry that goes right past c is put
-- in, or c comes in front of the lower side of a right entry of a level above h.
abbrev pub crossing : Item → ℕ → Entry Tree
crossing c zero = pass c
crossing c (suc h) = right (suc h) (leaf c empty)

abbrev pub graft_entries : Item → ℕ → List (Entry Tree) → List (Entry Tree)
graft_entries c h [] = crossing c h ∷ []
graft_entries c h (down l s ∷ p) = cond (ltb h l) (down l s ∷ graft_entries c h p) (crossing c h ∷ down l s ∷ p)
graft_entries c h (right l s ∷ p) = cond (ltb h l) (right l (graft c h s) ∷ p) (crossing c h ∷ right l s ∷ p)
graft_entries c h (pass d ∷ p) = crossing c h ∷ pass d ∷ p

-- the entries of the path to the last column of c followed by A, in the tree of c followed by A and B; its right
-- entries alone
abbrev pub entries_to : Item → List Column → List Column → List (Entry Tree)
entries_to c [] B = down_entries trees B
entries_to c (d ∷ A) B = graft_entries c d.height (entries_to d.item A B)

abbrev pub right_entries : Item → List Column → List (Entry Tree)
right_entries c A = entries_to c A []

abbrev pub place : Item → List Column → List Column → Place Tree
place c A B = record { entries = entries_to c A B; item = last_of c A; side = stop_side trees B }
