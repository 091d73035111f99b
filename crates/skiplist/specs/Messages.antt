-- The messages that are hashed, as lists in the order of hashing, over any digest H: in labelling a tree, and in
-- checking one proof.
-- Assumes nothing.
use Rattle.std.specs.Prelude.{ℕ, ◌+◌, List, [], ◌∷◌, ◌++◌}
use Rattle.skiplist.specs.Row.{Item}
use Rattle.skiplist.specs.Tree.{Tree, empty, leaf, node}
use Rattle.skiplist.specs.Sides.{side_of}
use Rattle.skiplist.specs.Entry.{Entry, down, right, pass, Place}
use Rattle.skiplist.specs.Recompute.{plug}
use Rattle.skiplist.specs.Label.{Side, level_bytes, rank_bytes, joined, leaf_side, sides}

module _ (H : List ℕ → List ℕ) where
  -- the five messages of a label: level, rank, third, right, and their four digests joined
  abbrev pub label_messages : ℕ → ℕ → List ℕ → List ℕ → List (List ℕ)
  label_messages l n t r = level_bytes l ∷ rank_bytes n ∷ t ∷ r ∷ joined H l n t r ∷ []

  abbrev pub leaf_messages : Item → Side → List (List ℕ)
  leaf_messages c r = label_messages 0 (c.own + r.rank) c.third r.label

  abbrev pub node_messages : ℕ → Side → Side → List (List ℕ)
  node_messages l a b = label_messages l (a.rank + b.rank) a.label b.label

  -- labelling a tree: the right side first, then the lower side, then the label over them (so leaves come from the
  -- right)
  abbrev pub tree_messages : Tree → List (List ℕ)
  tree_messages empty = []
  tree_messages (leaf c r) = tree_messages r ++ leaf_messages c (side_of (sides H) r)
  tree_messages (node l a b) =
      tree_messages b ++ (tree_messages a ++ node_messages l (side_of (sides H) a) (side_of (sides H) b))

  -- the label that an entry makes over the side t below it
  abbrev pub entry_messages : Entry Side → Side → List (List ℕ)
  entry_messages (down l s) t = node_messages l t s
  entry_messages (right l s) t = node_messages l s t
  entry_messages (pass c) t = leaf_messages c t

  -- recomputing a root from a stop and entries: the stop's label first, then upwards to the root
  abbrev pub path_messages : List (Entry Side) → Item → Side → List (List ℕ)
  path_messages [] c s = leaf_messages c s
  path_messages (e ∷ p) c s = path_messages p c s ++ entry_messages e (plug (sides H) p (leaf_side H c s))

  abbrev pub proof_messages : Place Side → List (List ℕ)
  proof_messages z = path_messages z.entries z.item z.side
