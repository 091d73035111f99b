-- "Label, after definition 3.1 of document 001: digest of four digests joined (128 bytes), of level, rank, third,
-- right." Over any digest H.
-- Assumes nothing.
use Rattle.std.specs.Prelude.{ℕ, ◌+◌, ◌^◌, List, [], ◌∷◌, ◌++◌}
use Rattle.skiplist.specs.Row.{Item, Column}
use Rattle.skiplist.specs.Tree.{Tree, tree}
use Rattle.skiplist.specs.Sides.{Sides, side_of}
use Rattle.skiplist.specs.Entry.{Place, map_place}
use Rattle.octets.specs.Numbers.{be}

-- "An empty right side, and the head's missing tag, is the ONE byte 0."
abbrev pub nothing : List ℕ
nothing = 0 ∷ []

-- "Level is one byte, rank four bytes."
abbrev pub level_bytes : ℕ → List ℕ
level_bytes l = l ∷ []

abbrev pub rank_bytes : ℕ → List ℕ
rank_bytes n = be 4 n

-- ranks below this are told apart by their four bytes
abbrev pub rank_bound : ℕ
rank_bound = 256 ^ 4

-- a side as a proof carries it: rank and label
pub record Side : Type 0 where
  pub rank : ℕ
  pub label : List ℕ

module _ (H : List ℕ → List ℕ) where
  -- the four digests joined: level l, rank n, third t, right r
  abbrev pub joined : ℕ → ℕ → List ℕ → List ℕ → List ℕ
  joined l n t r = H (level_bytes l) ++ (H (rank_bytes n) ++ (H t ++ H r))

  abbrev pub label_of : ℕ → ℕ → List ℕ → List ℕ → List ℕ
  label_of l n t r = H (joined l n t r)

  -- "Third is the 32-byte tag for a leaf and the lower side's 32-byte label for a node."
  abbrev pub leaf_side : Item → Side → Side
  leaf_side c r = record { rank = c.own + r.rank; label = label_of 0 (c.own + r.rank) c.third r.label }

  abbrev pub node_side : ℕ → Side → Side → Side
  node_side l a b = record { rank = a.rank + b.rank; label = label_of l (a.rank + b.rank) a.label b.label }

  abbrev pub sides : Sides Side
  sides = record { none = record { rank = 0; label = nothing }; leaf = leaf_side; node = node_side; weight = λ s. s.rank }

  -- "Metadata is count and root label": the rank and label of the root of c followed by R
  abbrev pub metadata : Item → List Column → Side
  metadata c R = side_of sides (tree c R)

  -- a path with the ranks and labels of its sides, as a proof has them
  abbrev pub labelled : Place Tree → Place Side
  labelled z = map_place (side_of sides) z
