-- A row's tree is good: its leaves hold what they may, its nodes have levels above 0 and two sides. In a good tree
-- whose leaves weigh something, the first of all set aside, the last column is reached by right entries alone and the
-- first by down entries alone.
use Prim.Native.Nat.{ℕ, zero, suc, ◌+◌, ◌≤◌, ◌<◌}
use native.Mathlib.Omega.{arith}
use mathlib.Core.Path.{◌≡◌, refl}
use mathlib.Core.Logic.{◌⊎◌, inl, inr}
use mathlib.Core.Bool.{Bool, true, false, cond}
use mathlib.Core.List.{List, [], ◌∷◌}
use lib.Dec.{ltb}
use borrow.Author.Tests.{lt-ltb, le-ltb}
use Rattle.skiplist.specs.Row.{Item, Column}
use Rattle.skiplist.specs.Tree.{Tree, empty, leaf, node, rise, graft, tree, rank}
use Rattle.skiplist.specs.Sides.{trees}
use Rattle.skiplist.specs.Entry.{Entry, down, right, pass}
use Rattle.skiplist.specs.Recompute.{plug, passed}
use Rattle.skiplist.specs.Merge.{only_rights, only_downs}
use Rattle.skiplist.specs.Leaves.{AllFit, Fits}
use Rattle.skiplist.proofs.Cases.{order}
use Rattle.skiplist.proofs.RankLaws.{position_le}

abbrev pub NonEmpty : Tree → Type 0
NonEmpty empty = ⊥
NonEmpty (leaf c r) = Unit {0}
NonEmpty (node l a b) = Unit {0}

rise_full : (c : Item) (h : ℕ) (t : Tree) → NonEmpty (rise c h t)
rise_full c zero t = tt
rise_full c (suc h) t = tt

graft_full : (c : Item) (h : ℕ) (t : Tree) → NonEmpty (graft c h t)
graft_full c h empty = rise_full c h empty
graft_full c h (leaf d r) = rise_full c h (leaf d r)
graft_full c h (node l a b) = go (ltb h l)
  where
    go : (t : Bool) → NonEmpty (cond t (node l (graft c h a) b) (rise c h (node l a b)))
    go true = tt
    go false = rise_full c h (node l a b)

pub tree_full : (c : Item) (R : List Column) → NonEmpty (tree c R)
unfolding tree
tree_full c [] = tt
tree_full c (d ∷ R) = graft_full c d.height (tree d.item R)

module _ (Fit : Bool → Item → Type 0) where
  abbrev pub Good : Bool → Tree → Type 0
  Good f empty = Unit {0}
  Good f (leaf c r) = Fit f c × Good false r
  Good f (node l a b) = (1 ≤ l) × NonEmpty a × NonEmpty b × Good f a × Good false b

  rise-good : (f : Bool) (c : Item) (h : ℕ) (t : Tree) → Fit f c → Good false t → NonEmpty t → Good f (rise c h t)
  rise-good f c zero t k g n = (k, g)
  rise-good f c (suc h) t k g n = (omega arith, tt, n, (k, tt), g)

  graft-good : (f : Bool) (c : Item) (h : ℕ) (t : Tree) → Fit f c → Good false t → NonEmpty t → Good f (graft c h t)
  graft-good f c h empty k g n = absurd n
  graft-good f c h (leaf d r) k g n = rise-good f c h (leaf d r) k g n
  graft-good f c h (node l a b) k g n = go (order h l) (graft-good f c h a k g.3 g.1)
    where
      go : (h < l) ⊎ (l ≤ h) → Good f (graft c h a) → Good f (graft c h (node l a b))
      go (inl e) i = rw (lt-ltb h l e) (g.0, graft_full c h a, g.2, i, g.4)
      go (inr e) i = rw (le-ltb h l e) (rise-good f c h (node l a b) k g n)

  pub tree-good : (f : Bool) (c : Item) (R : List Column) → Fit f c → AllFit Fit R → Good f (tree c R)
  unfolding tree
  tree-good f c [] k a = (k, tt)
  tree-good f c (d ∷ R) k a =
      graft-good f c d.height (tree d.item R) k (tree-good false d.item R a.0 a.1) (tree_full d.item R)

  pub good-fits : (f : Bool) (q : List (Entry Tree)) (e : Item) (r : Tree) → Good f (plug trees q (leaf e r))
      → Fits Fit f q e
  good-fits f [] e r g = g.0
  good-fits f (down l s ∷ q) e r g = good-fits f q e r g.3
  good-fits f (right l s ∷ q) e r g = good-fits false q e r g.4
  good-fits f (pass d ∷ q) e r g = (g.0, good-fits false q e r g.1)

-- every leaf but the first of all weighs something
module _ (Fit : Bool → Item → Type 0) (heavy : (c : Item) → Fit false c → 1 ≤ c.own) where
  pub good-rank : (t : Tree) → Good Fit false t → NonEmpty t → 1 ≤ rank t
  good-rank empty g n = absurd n
  good-rank (leaf c r) g n = omega (arith, heavy c g.0)
  good-rank (node l a b) g n = omega (arith, good-rank a g.3 g.1)

  pub good-own : (q : List (Entry Tree)) (c : Item) (r : Tree) → Good Fit false (plug trees q (leaf c r)) → 1 ≤ c.own
  good-own [] c r g = heavy c g.0
  good-own (down l s ∷ q) c r g = good-own q c r g.3
  good-own (right l s ∷ q) c r g = good-own q c r g.4
  good-own (pass d ∷ q) c r g = good-own q c r g.1

  pub last_rights : (f : Bool) (p : List (Entry Tree)) (c : Item) (r : Tree) → Good Fit f (plug trees p (leaf c r))
      → passed trees p + c.own ≡ rank (plug trees p (leaf c r)) → only_rights p ≡ true
  last_rights f [] c r g e = refl
  last_rights f (down l s ∷ p) c r g e = absurd (omega (arith, position_le p c r, good-rank s g.4 g.2))
  last_rights f (right l s ∷ p) c r g e = last_rights false p c r g.4 (omega arith)
  last_rights f (pass d ∷ p) c r g e = last_rights false p c r g.1 (omega arith)

  pub first_downs : (p : List (Entry Tree)) (c : Item) (r : Tree) → Good Fit false (plug trees p (leaf c r))
      → passed trees p ≡ 0 → only_downs p ≡ true
  first_downs [] c r g e = refl
  first_downs (down l s ∷ p) c r g e = first_downs p c r g.3 e
  first_downs (right l s ∷ p) c r g e = absurd (omega (arith, good-rank s g.3 g.1))
  first_downs (pass d ∷ p) c r g e = absurd (omega (arith, heavy d g.0))
