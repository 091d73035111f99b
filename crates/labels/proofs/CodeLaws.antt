-- What the code has for a tree is the model's rank and label, where the rank fits 64 bits.
-- Assumes nothing.
use Rattle.std.proofs.Common.{◌≡◌, ℕ, ◌+◌, ◌%◌, ◌^◌, ◌<◌, refl, ap, ◌∙◌, ap₂, arith}
use Rattle.sha256.specs.Hash.{sha256}
use Rattle.skiplist.specs.Row.{Item}
use Rattle.skiplist.specs.Tree.{Tree, empty, leaf, node, rank}
use Rattle.skiplist.specs.Sides.{side_of}
use Rattle.skiplist.specs.Label.{sides, leaf_side, node_side}
use Rattle.labels.specs.declared.Side.{Side}
use Rattle.labels.specs.CodeSides.{to_side, no_side, leaf_of, node_of, coded}

-- one leaf, one node
pub code_leaf : (c : Item) (r : Side) → c.own + r.rank < 2 ^ 64 → to_side (leaf_of c r) ≡ leaf_side sha256 c (to_side r)
unfolding leaf_of
code_leaf c r h = let e : (c.own + r.rank) % 2 ^ 64 ≡ c.own + r.rank = omega arith in rw e

pub code_node : (l : ℕ) (a b : Side) → a.rank + b.rank < 2 ^ 64 → to_side (node_of l a b) ≡ node_side sha256 l (to_side a) (to_side b)
unfolding node_of
code_node l a b h = let e : (a.rank + b.rank) % 2 ^ 64 ≡ a.rank + b.rank = omega arith in rw e

-- a whole tree
pub record Coded (t : Tree) : Type 0 where
  pub rank_is : (side_of coded t).rank ≡ rank t
  pub side_is : to_side (side_of coded t) ≡ side_of (sides sha256) t

pub code_side : (t : Tree) → rank t < 2 ^ 64 → Coded t
unfolding no_side leaf_of node_of
code_side empty h = record { rank_is = refl; side_is = refl }
code_side (leaf c r) h = go (code_side r (omega arith))
  where
    go : Coded r → Coded (leaf c r)
    go s =
        let b : c.own + (side_of coded r).rank < 2 ^ 64 = omega (arith, s.rank_is) in
        record {
          rank_is = omega (arith, s.rank_is);
          side_is = code_leaf c (side_of coded r) b ∙ ap (leaf_side sha256 c) s.side_is;
        }
code_side (node l a b) h = go (code_side a (omega arith)) (code_side b (omega arith))
  where
    go : Coded a → Coded b → Coded (node l a b)
    go s u =
        let k : (side_of coded a).rank + (side_of coded b).rank < 2 ^ 64 = omega (arith, s.rank_is, u.rank_is) in
        record {
          rank_is = omega (arith, s.rank_is, u.rank_is);
          side_is = code_node l (side_of coded a) (side_of coded b) k ∙ ap₂ (node_side sha256 l) s.side_is u.side_is;
        }
