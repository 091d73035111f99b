-- Ranks and positions by weight: the rank of the row's tree is what its columns weigh, the fields of a path add up to
-- the rank of the root that it recomputes, and the path made from the row has the position of its column.
use Prim.Native.Nat.{ℕ, zero, suc, ◌+◌, ◌≤◌, ◌<◌}
use native.Mathlib.Omega.{arith}
use mathlib.Core.Path.{◌≡◌, refl, ap, ◌∙◌}
use mathlib.Core.Logic.{◌⊎◌, inl, inr}
use mathlib.Core.List.{List, [], ◌∷◌}
use borrow.Author.Tests.{lt-ltb, le-ltb}
use Rattle.skiplist.specs.Row.{Item, Column, weights}
use Rattle.skiplist.specs.Tree.{Tree, empty, leaf, node, rise, graft, tree, rank}
use Rattle.skiplist.specs.Sides.{Sides, trees, side_of}
use Rattle.skiplist.specs.Entry.{Entry, down, right, pass, Place}
use Rattle.skiplist.specs.Recompute.{plug, whole, passed, proved_position, fields, proved_rank}
use Rattle.skiplist.specs.Path.{down_entries, crossing, graft_entries, entries_to, place}
use Rattle.skiplist.proofs.Cases.{order}
use Rattle.skiplist.proofs.DownLaws.{AllDown, entries_down}

-- the weight of what is made is the sum of what it is made of
pub record Weighs {S : Type 0} (𝓢 : Sides S) : Type 0 where
  pub of_none : 𝓢.weight 𝓢.none ≡ 0
  pub of_leaf : (c : Item) (r : S) → 𝓢.weight (𝓢.leaf c r) ≡ c.own + 𝓢.weight r
  pub of_node : (l : ℕ) (a b : S) → 𝓢.weight (𝓢.node l a b) ≡ 𝓢.weight a + 𝓢.weight b

pub trees_weigh : Weighs trees
trees_weigh = record { of_none = refl; of_leaf = λ c r. refl; of_node = λ l a b. refl }

module _ {S : Type 0} (𝓢 : Sides S) (w : Weighs 𝓢) where
  pub side-weight : (t : Tree) → 𝓢.weight (side_of 𝓢 t) ≡ rank t
  side-weight empty = w.of_none
  side-weight (leaf c r) = omega (arith, w.of_leaf c (side_of 𝓢 r), side-weight r)
  side-weight (node l a b) = omega (arith, w.of_node l (side_of 𝓢 a) (side_of 𝓢 b), side-weight a, side-weight b)

  fields-whole : (p : List (Entry S)) (t : S) → fields 𝓢 p + 𝓢.weight t ≡ 𝓢.weight (plug 𝓢 p t)
  fields-whole [] t = omega arith
  fields-whole (down l s ∷ p) t = omega (arith, w.of_node l (plug 𝓢 p t) s, fields-whole p t)
  fields-whole (right l s ∷ p) t = omega (arith, w.of_node l s (plug 𝓢 p t), fields-whole p t)
  fields-whole (pass c ∷ p) t = omega (arith, w.of_leaf c (plug 𝓢 p t), fields-whole p t)

  -- the proved rank is the rank of the root recomputed
  pub rank_proved : (z : Place S) → proved_rank 𝓢 z ≡ 𝓢.weight (whole 𝓢 z)
  rank_proved z =
      ap (λ n. fields 𝓢 z.entries + n) (w_leaf z) ∙ fields-whole z.entries (𝓢.leaf z.item z.side)
    where
      w_leaf : (z : Place S) → z.item.own + 𝓢.weight z.side ≡ 𝓢.weight (𝓢.leaf z.item z.side)
      w_leaf z = omega (arith, w.of_leaf z.item z.side)

-- a path's position is at most the rank
pub position_le : (q : List (Entry Tree)) (c : Item) (r : Tree) → passed trees q + c.own ≤ rank (plug trees q (leaf c r))
position_le [] c r = omega arith
position_le (down l s ∷ q) c r = omega (arith, position_le q c r)
position_le (right l s ∷ q) c r = omega (arith, position_le q c r)
position_le (pass d ∷ q) c r = omega (arith, position_le q c r)

-- THE ROW'S TREE
rise-rank : (c : Item) (h : ℕ) (t : Tree) → rank (rise c h t) ≡ c.own + rank t
rise-rank c zero t = refl
rise-rank c (suc h) t = omega arith

graft-rank : (c : Item) (h : ℕ) (t : Tree) → rank (graft c h t) ≡ c.own + rank t
graft-rank c h empty = rise-rank c h empty
graft-rank c h (leaf d r) = rise-rank c h (leaf d r)
graft-rank c h (node l a b) = go (order h l) (graft-rank c h a)
  where
    go : (h < l) ⊎ (l ≤ h) → rank (graft c h a) ≡ c.own + rank a
        → rank (graft c h (node l a b)) ≡ c.own + rank (node l a b)
    go (inl k) e = rw (lt-ltb h l k) (omega arith)
    go (inr k) e = rw (le-ltb h l k) (rise-rank c h (node l a b))

pub tree-rank : (c : Item) (R : List Column) → rank (tree c R) ≡ c.own + weights R
unfolding tree
tree-rank c [] = refl
tree-rank c (d ∷ R) = graft-rank c d.height (tree d.item R) ∙ ap (λ n. c.own + n) (tree-rank d.item R)

-- THE ROW'S PATHS
crossing-passed : (c : Item) (h : ℕ) (p : List (Entry Tree)) → passed trees (crossing c h ∷ p) ≡ c.own + passed trees p
crossing-passed c zero p = refl
crossing-passed c (suc h) p = omega arith

graft-passed : (c : Item) (h : ℕ) (p : List (Entry Tree)) → passed trees (graft_entries c h p) ≡ c.own + passed trees p
graft-passed c h [] = crossing-passed c h []
graft-passed c h (down l s ∷ p) = go (order h l) (graft-passed c h p)
  where
    go : (h < l) ⊎ (l ≤ h) → passed trees (graft_entries c h p) ≡ c.own + passed trees p
        → passed trees (graft_entries c h (down l s ∷ p)) ≡ c.own + passed trees (down l s ∷ p)
    go (inl k) e = rw (lt-ltb h l k) (omega arith)
    go (inr k) e = rw (le-ltb h l k) (crossing-passed c h (down l s ∷ p))
graft-passed c h (right l s ∷ p) = go (order h l)
  where
    go : (h < l) ⊎ (l ≤ h) → passed trees (graft_entries c h (right l s ∷ p)) ≡ c.own + passed trees (right l s ∷ p)
    go (inl k) = rw (lt-ltb h l k) (omega (arith, graft-rank c h s))
    go (inr k) = rw (le-ltb h l k) (crossing-passed c h (right l s ∷ p))
graft-passed c h (pass d ∷ p) = crossing-passed c h (pass d ∷ p)

down-passed : (p : List (Entry Tree)) → AllDown p → passed trees p ≡ 0
down-passed [] a = refl
down-passed (down l s ∷ p) a = down-passed p a.1
down-passed (right l s ∷ p) a = absurd a
down-passed (pass c ∷ p) a = absurd a

pub place_position : (c : Item) (A B : List Column) → proved_position trees (place c A B) ≡ c.own + weights A
place_position c [] B = omega (arith, down-passed (down_entries trees B) (entries_down trees B))
place_position c (d ∷ A) B =
    omega (arith, graft-passed c d.height (entries_to d.item A B), place_position d.item A B)
