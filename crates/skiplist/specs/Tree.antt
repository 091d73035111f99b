-- "Write tree(c, R) for column c followed by a run R of columns." The three cases stand word for word as a relation,
-- `TreeOf`, and the tree is computed by `tree` (Theorems: tree_is and tree_only, TreeOf c R t holds exactly where t
-- is tree c R).
-- Assumes nothing.
use Rattle.std.specs.Prelude.{ℕ, zero, suc, ◌+◌, ◌<◌, cond, List, [], ◌∷◌, ◌++◌, ltb}
use Rattle.skiplist.specs.Row.{Item, Column, AtMost, Below}

-- the empty side; a leaf, of level 0, with its right side; a node of a level with its lower side and its right side
pub data Tree : Type 0 where
  empty : Tree
  leaf : Item → Tree → Tree
  node : ℕ → Tree → Tree → Tree

pub data TreeOf : Item → List Column → Tree → Type 0 where
  -- "R empty: a leaf of level 0 holding c's tag, right side empty."
  alone : {c : Item} → TreeOf c [] (leaf c empty)
  -- "The greatest height in R is 0: a leaf of level 0 holding c's tag; its right side is the tree of R's first column
  -- followed by the rest of R."
  flat : {c : Item} {d : Column} {R : List Column} {t : Tree} → AtMost 0 (d ∷ R) → TreeOf d.item R t
      → TreeOf c (d ∷ R) (leaf c t)
  -- "Greatest height l above 0: let d be the FIRST column in R of height l. A node of level l; below it tree(c, what
  -- precedes d in R), at its right tree(d, what follows d)."
  tall : {c : Item} {A : List Column} {d : Column} {B : List Column} {s t : Tree}
      → 0 < d.height → Below d.height A → AtMost d.height B
      → TreeOf c A s → TreeOf d.item B t → TreeOf c (A ++ d ∷ B) (node d.height s t)

-- THE SAME, COMPUTED from the right, a column at a time. Column c comes in front of a tree whose first column has
-- height h. Where no level of that tree is above h, c stands beside it at level 0, or else is the lower side of a new
-- node of level h;
abbrev pub rise : Item → ℕ → Tree → Tree
rise c zero t = leaf c t
rise c (suc h) t = node (suc h) (leaf c empty) t

-- otherwise c comes in front of the lower side
abbrev pub graft : Item → ℕ → Tree → Tree
graft c h empty = rise c h empty
graft c h (leaf d r) = rise c h (leaf d r)
graft c h (node l a b) = cond (ltb h l) (node l (graft c h a) b) (rise c h (node l a b))

unfoldable pub tree : Item → List Column → Tree
tree c [] = leaf c empty
tree c (d ∷ R) = graft c d.height (tree d.item R)

-- "Rank of a leaf is own plus its right side's rank (0 if empty); of a node, the sum of its two sides."
abbrev pub rank : Tree → ℕ
rank empty = 0
rank (leaf c r) = c.own + rank r
rank (node l a b) = rank a + rank b
