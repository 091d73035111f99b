-- The path to a column in front of a run goes down only, and recomputing it gives the tree of that column and the
-- run. One more column in front closes the down entries up to its height, as the tree's left edge is grafted.
use Prim.Native.Nat.{ℕ, zero, suc, ◌≤◌, ◌<◌}
use native.Mathlib.Omega.{arith}
use mathlib.Core.Path.{◌≡◌, refl, ap, sym, ◌∙◌}
use mathlib.Core.Logic.{◌⊎◌, inl, inr}
use mathlib.Core.List.{List, [], ◌∷◌}
use borrow.Author.Tests.{lt-ltb, le-ltb}
use Rattle.skiplist.specs.Row.{Item, Column}
use Rattle.skiplist.specs.Tree.{Tree, leaf, node, rise, graft, tree}
use Rattle.skiplist.specs.Sides.{Sides, trees}
use Rattle.skiplist.specs.Entry.{Entry, down, right, pass}
use Rattle.skiplist.specs.Recompute.{plug}
use Rattle.skiplist.specs.Path.{opened, closed, beside, stop_side, down_entries}
use Rattle.skiplist.proofs.Cases.{order}

-- only entries that go down
abbrev pub AllDown : {S : Type 0} → List (Entry S) → Type 0
AllDown [] = Unit {0}
AllDown (down l s ∷ p) = (1 ≤ l) × AllDown p
AllDown (right l s ∷ p) = ⊥
AllDown (pass c ∷ p) = ⊥

module _ {S : Type 0} (𝓢 : Sides S) where
  opened-down : (h : ℕ) (t : S) → AllDown (opened 𝓢 h t)
  opened-down zero t = tt
  opened-down (suc h) t = (omega arith, tt)

  closed-down : (h : ℕ) (t : S) (p : List (Entry S)) → AllDown p → AllDown (closed 𝓢 h t p)
  closed-down h t [] a = opened-down h t
  closed-down h t (down l s ∷ p) a = go (order h l) (closed-down h t p a.1)
    where
      go : (h < l) ⊎ (l ≤ h) → AllDown (closed 𝓢 h t p) → AllDown (closed 𝓢 h t (down l s ∷ p))
      go (inl k) b = rw (lt-ltb h l k) (a.0, b)
      go (inr k) b = rw (le-ltb h l k) (opened-down h _)
  closed-down h t (right l s ∷ p) a = absurd a
  closed-down h t (pass c ∷ p) a = absurd a

  pub entries_down : (B : List Column) → AllDown (down_entries 𝓢 B)
  entries_down [] = tt
  entries_down (d ∷ B) = closed-down d.height (𝓢.leaf d.item (stop_side 𝓢 B)) (down_entries 𝓢 B) (entries_down B)

rise-opened : (c : Item) (h : ℕ) (t : Tree) → 0 < h
    → rise c h t ≡ plug trees (opened trees h t) (leaf c (beside trees h t))
rise-opened c zero t k = absurd (omega arith)
rise-opened c (suc h) t k = refl

beside_high : (h : ℕ) (t u : Tree) → 0 < h → beside trees h t ≡ beside trees h u
beside_high zero t u k = absurd (omega arith)
beside_high (suc h) t u k = refl

closed-whole : (c : Item) (h : ℕ) (d : Item) (r : Tree) (p : List (Entry Tree)) → AllDown p
    → graft c h (plug trees p (leaf d r)) ≡ plug trees (closed trees h (leaf d r) p) (leaf c (beside trees h (leaf d r)))
closed-whole c zero d r [] a = refl
closed-whole c (suc h) d r [] a = refl
closed-whole c h d r (down l s ∷ p) a = go (order h l) (closed-whole c h d r p a.1)
  where
    t : Tree
    t = plug trees p (leaf d r)

    go : (h < l) ⊎ (l ≤ h) → graft c h t ≡ plug trees (closed trees h (leaf d r) p) (leaf c (beside trees h (leaf d r)))
        → graft c h (node l t s)
        ≡ plug trees (closed trees h (leaf d r) (down l s ∷ p)) (leaf c (beside trees h (leaf d r)))
    go (inl k) e = rw (lt-ltb h l k, e)
    go (inr k) e = rw (le-ltb h l k)
        (rise-opened c h (node l t s) (omega (arith, a.0))
        ∙ rw (beside_high h (node l t s) (leaf d r) (omega (arith, a.0))))
closed-whole c h d r (right l s ∷ p) a = absurd a
closed-whole c h d r (pass e ∷ p) a = absurd a

pub downs-whole : (c : Item) (B : List Column) → plug trees (down_entries trees B) (leaf c (stop_side trees B)) ≡ tree c B
unfolding tree
downs-whole c [] = refl
downs-whole c (d ∷ B) =
    sym (closed-whole c d.height d.item (stop_side trees B) (down_entries trees B) (entries_down trees B))
    ∙ ap (graft c d.height) (downs-whole d.item B)
