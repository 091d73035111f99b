-- What can stand for a side of a leaf or a node: a whole tree, or the rank and label that a proof carries for it. A
-- rule that is written over any kind of sides is one rule for the trees and for the labels.
-- Assumes nothing.
use Rattle.std.specs.Prelude.{ℕ}
use Rattle.skiplist.specs.Row.{Item}
use Rattle.skiplist.specs.Tree.{Tree, empty, leaf, node, rank}

-- how sides of the kind S are made (the empty one, a leaf from its right side, a node from its lower and right side),
-- and their rank
pub record Sides (S : Type 0) : Type 0 where
  pub none : S
  pub leaf : Item → S → S
  pub node : ℕ → S → S → S
  pub weight : S → ℕ

-- trees stand for themselves
abbrev pub trees : Sides Tree
trees = record { none = empty; leaf = leaf; node = node; weight = rank }

-- what stands for a tree
abbrev pub side_of : {S : Type 0} → Sides S → Tree → S
side_of 𝓢 empty = 𝓢.none
side_of 𝓢 (leaf c r) = 𝓢.leaf c (side_of 𝓢 r)
side_of 𝓢 (node l a b) = 𝓢.node l (side_of 𝓢 a) (side_of 𝓢 b)
