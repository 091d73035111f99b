-- The way by weights finds the one path that holds a position, so a path is fixed by any position that it holds; and
-- for own 0 and 1 document 01's way and its rule on a proof's position say the same as those by weights.
use Prim.Native.Nat.{ℕ, zero, suc, ◌+◌, ◌-◌, ◌≤◌, ◌<◌}
use native.Mathlib.Omega.{arith}
use mathlib.Core.Path.{◌≡◌, refl, ap, sym, ◌∙◌}
use mathlib.Core.Logic.{◌⊎◌, inl, inr}
use mathlib.Core.Bool.{Bool, true, false}
use mathlib.Core.List.{List, [], ◌∷◌, ◌++◌}
use borrow.Author.Tests.{le-leb, lt-leb, eq-eqb, ne_eqb}
use Rattle.skiplist.specs.Row.{Item, Column}
use Rattle.skiplist.specs.Tree.{Tree, empty, leaf, node, tree, rank}
use Rattle.skiplist.specs.Sides.{Sides, trees}
use Rattle.skiplist.specs.Entry.{Entry, down, right, pass, Place, under}
use Rattle.skiplist.specs.Recompute.{plug, whole, passed}
use Rattle.skiplist.specs.Find.{find, walk, Proves, Holds}
use Rattle.skiplist.specs.Path.{place}
use Rattle.skiplist.specs.Leaves.{AllFit}
use Rattle.skiplist.proofs.Cases.{order}
use Rattle.skiplist.proofs.PathLaws.{place-whole}
use Rattle.skiplist.proofs.RankLaws.{position_le}
use Rattle.skiplist.proofs.GoodTree.{Good, tree-good, good-own}

-- THE WAY BY WEIGHTS
walk_held : (n : ℕ) (q : List (Entry Tree)) (c : Item) (r : Tree) → passed trees q < n → n ≤ passed trees q + c.own
    → walk n (plug trees q (leaf c r)) ≡ record { entries = q; item = c; side = r }
walk_held n [] c r a b = rw (le-leb n c.own (omega arith))
walk_held n (down l s ∷ q) c r a b =
    rw (le-leb n (rank (plug trees q (leaf c r))) (omega (arith, position_le q c r)), walk_held n q c r a b)
walk_held n (right l s ∷ q) c r a b =
    rw (lt-leb n (rank s) (omega arith), walk_held (n - rank s) q c r (omega arith) (omega arith))
walk_held n (pass d ∷ q) c r a b =
    rw (lt-leb n d.own (omega arith), walk_held (n - d.own) q c r (omega arith) (omega arith))

module _ (Fit : Bool → Item → Type 0) (heavy : (c : Item) → Fit false c → 1 ≤ c.own) where
  walk-zero : (n : ℕ) (q : List (Entry Tree)) (c : Item) (r : Tree) → Good Fit true (plug trees q (leaf c r)) → n ≡ 0
      → c.own ≡ 0
      → walk n (plug trees q (leaf c r)) ≡ record { entries = q; item = c; side = r }
  walk-zero n [] c r g e o = rw (le-leb n c.own (omega arith))
  walk-zero n (down l s ∷ q) c r g e o =
      rw (le-leb n (rank (plug trees q (leaf c r))) (omega arith), walk-zero n q c r g.3 e o)
  walk-zero n (right l s ∷ q) c r g e o = absurd (omega (arith, good-own Fit heavy q c r g.4))
  walk-zero n (pass d ∷ q) c r g e o = absurd (omega (arith, good-own Fit heavy q c r g.1))

  -- a path of a good tree is found by each position that it holds
  pub walk_path : (n : ℕ) (z : Place Tree) → Good Fit true (whole trees z) → Holds trees n z → walk n (whole trees z) ≡ z
  walk_path n z g (inl h) = walk_held n z.entries z.item z.side h.0 h.1
  walk_path n z g (inr h) = walk-zero n z.entries z.item z.side g h.0 h.2

  -- the row's path is found by each position that it holds
  pub walk-row : (n : ℕ) (c : Item) (A B : List Column) → Fit true c → AllFit Fit (A ++ B) → Holds trees n (place c A B)
      → walk n (tree c (A ++ B)) ≡ place c A B
  walk-row n c A B k a h =
      ap (walk n) (sym (place-whole c A B))
      ∙ walk_path n (place c A B) (rw (place-whole c A B) (tree-good Fit true c (A ++ B) k a)) h

-- OWN 0 AND 1
module _ {S : Type 0} (𝓢 : Sides S) where
  pub proves-holds : (p : ℕ) (z : Place S) → Proves 𝓢 p z → Holds 𝓢 p z
  proves-holds zero z h = inr (refl, omega (arith, h.0), h.1)
  proves-holds (suc p) z h = inl (omega (arith, h.0, h.1), omega (arith, h.0))

  pub holds-proves : (p : ℕ) (z : Place S) → z.item.own ≤ 1 → Holds 𝓢 p z → Proves 𝓢 p z
  holds-proves zero z o (inl h) = absurd (omega (arith, h.0))
  holds-proves zero z o (inr h) = (omega (arith, h.1, h.2), h.2)
  holds-proves (suc p) z o (inl h) = (omega (arith, h.0, h.1), omega (arith, h.0, h.1))
  holds-proves (suc p) z o (inr h) = absurd (omega (arith, h.0))

-- where the first of all leaves is the head, any position is looked for; elsewhere 1 or more
abbrev Starts : Bool → ℕ → Type 0
Starts true p = Unit {0}
Starts false p = 1 ≤ p

module _ (Fit : Bool → Item → Type 0) (none : (c : Item) → Fit true c → c.own ≡ 0)
    (one : (c : Item) → Fit false c → c.own ≡ 1) where
  at_leaf : (f : Bool) (p : ℕ) (c : Item) → Fit f c → Starts f p → p ≤ c.own → p ≡ c.own
  at_leaf true p c k s o = omega (arith, none c k)
  at_leaf false p c k s o = omega (arith, one c k)

  find-walk : (f : Bool) (p : ℕ) (t : Tree) → Good Fit f t → Starts f p → find p t ≡ walk p t
  find-walk f p empty g s = refl
  find-walk f p (leaf c r) g s = go (order c.own p) (λ k. find-walk false (p - c.own) r g.1 k)
    where
      go : (c.own < p) ⊎ (p ≤ c.own) → (1 ≤ p - c.own → find (p - c.own) r ≡ walk (p - c.own) r)
          → find p (leaf c r) ≡ walk p (leaf c r)
      go (inl k) ih = rw (ne_eqb p c.own (λ e. omega arith), lt-leb p c.own k)
          (ap (under (pass c)) (ih (omega arith)))
      go (inr k) ih = rw (eq-eqb p c.own (at_leaf f p c g.0 s k), le-leb p c.own k)
  find-walk f p (node l a b) g s = go (order (rank a) p) (find-walk f p a g.3 s)
      (λ k. find-walk false (p - rank a) b g.4 k)
    where
      go : (rank a < p) ⊎ (p ≤ rank a) → find p a ≡ walk p a
          → (1 ≤ p - rank a → find (p - rank a) b ≡ walk (p - rank a) b)
          → find p (node l a b) ≡ walk p (node l a b)
      go (inl k) lower ih = rw (lt-leb p (rank a) k) (ap (under (right l a)) (ih (omega arith)))
      go (inr k) lower ih = rw (le-leb p (rank a) k) (ap (under (down l b)) lower)

  pub find_is_walk : (p : ℕ) (c : Item) (R : List Column) → Fit true c → AllFit Fit R
      → find p (tree c R) ≡ walk p (tree c R)
  find_is_walk p c R k a = find-walk true p (tree c R) (tree-good Fit true c R k a) tt
