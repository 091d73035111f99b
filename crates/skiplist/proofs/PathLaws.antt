-- The path made from the row: recomputing it gives the row's tree, and its levels fall as document 01 says. A column
-- in front grafts the path as it grafts the tree.
use Prim.Native.Nat.{ℕ, zero, suc, pred, ◌≤◌, ◌<◌}
use native.Mathlib.Omega.{arith}
use mathlib.Core.Path.{◌≡◌, refl, ap, ◌∙◌}
use mathlib.Core.Logic.{◌⊎◌, inl, inr}
use mathlib.Core.List.{List, [], ◌∷◌, ◌++◌}
use borrow.Author.Tests.{lt-ltb, le-ltb}
use Rattle.skiplist.specs.Row.{Item, Column, AtMost, last_of}
use Rattle.skiplist.specs.Tree.{Tree, leaf, rise, graft, tree}
use Rattle.skiplist.specs.Sides.{Sides, trees}
use Rattle.skiplist.specs.Entry.{Entry, down, right, pass, Falls}
use Rattle.skiplist.specs.Recompute.{push, plug, whole}
use Rattle.skiplist.specs.Path.{opened, closed, stop_side, down_entries, crossing, graft_entries, entries_to, place}
use Rattle.skiplist.proofs.Cases.{order}
use Rattle.skiplist.proofs.DownLaws.{AllDown, entries_down, downs-whole}

-- RECOMPUTING
crossing-whole : (c : Item) (h : ℕ) (t : Tree) → push trees (crossing c h) t ≡ rise c h t
crossing-whole c zero t = refl
crossing-whole c (suc h) t = refl

graft-whole : (c : Item) (h : ℕ) (p : List (Entry Tree)) (d : Item) (r : Tree)
    → plug trees (graft_entries c h p) (leaf d r) ≡ graft c h (plug trees p (leaf d r))
graft-whole c h [] d r = crossing-whole c h (leaf d r)
graft-whole c h (down l s ∷ p) d r = go (order h l) (graft-whole c h p d r)
  where
    go : (h < l) ⊎ (l ≤ h) → plug trees (graft_entries c h p) (leaf d r) ≡ graft c h (plug trees p (leaf d r))
        → plug trees (graft_entries c h (down l s ∷ p)) (leaf d r) ≡ graft c h (plug trees (down l s ∷ p) (leaf d r))
    go (inl k) e = rw (lt-ltb h l k, e)
    go (inr k) e = rw (le-ltb h l k) (crossing-whole c h _)
graft-whole c h (right l s ∷ p) d r = go (order h l)
  where
    go : (h < l) ⊎ (l ≤ h)
        → plug trees (graft_entries c h (right l s ∷ p)) (leaf d r) ≡ graft c h (plug trees (right l s ∷ p) (leaf d r))
    go (inl k) = rw (lt-ltb h l k)
    go (inr k) = rw (le-ltb h l k) (crossing-whole c h _)
graft-whole c h (pass e ∷ p) d r = crossing-whole c h _

pub place-whole : (c : Item) (A B : List Column) → whole trees (place c A B) ≡ tree c (A ++ B)
unfolding tree
place-whole c [] B = downs-whole c B
place-whole c (d ∷ A) B =
    graft-whole c d.height (entries_to d.item A B) (last_of d.item A) (stop_side trees B)
    ∙ ap (graft c d.height) (place-whole d.item A B)

-- LEVELS
module _ {S : Type 0} (𝓢 : Sides S) where
  opened-falls : (m h : ℕ) (t : S) → h ≤ m → Falls m (opened 𝓢 h t)
  opened-falls m zero t k = tt
  opened-falls m (suc h) t k = (omega arith, k, tt)

  closed-falls : (m h : ℕ) (t : S) (p : List (Entry S)) → h ≤ m → AllDown p → Falls m p → Falls m (closed 𝓢 h t p)
  closed-falls m h t [] k a f = opened-falls m h t k
  closed-falls m h t (down l s ∷ p) k a f = go (order h l) (λ e. closed-falls (pred l) h t p e a.1 f.2)
    where
      go : (h < l) ⊎ (l ≤ h) → (h ≤ pred l → Falls (pred l) (closed 𝓢 h t p)) → Falls m (closed 𝓢 h t (down l s ∷ p))
      go (inl e) ih = rw (lt-ltb h l e) (f.0, f.1, ih (omega arith))
      go (inr e) ih = rw (le-ltb h l e) (opened-falls m h _ k)
  closed-falls m h t (right l s ∷ p) k a f = absurd a
  closed-falls m h t (pass c ∷ p) k a f = absurd a

  pub downs_fall : (m : ℕ) (B : List Column) → AtMost m B → Falls m (down_entries 𝓢 B)
  downs_fall m [] a = tt
  downs_fall m (d ∷ B) a =
      closed-falls m d.height (𝓢.leaf d.item (stop_side 𝓢 B)) (down_entries 𝓢 B) a.0 (entries_down 𝓢 B)
      (downs_fall m B a.1)

crossing-falls : (m : ℕ) (c : Item) (h : ℕ) (p : List (Entry Tree)) → h ≤ m → Falls h p → Falls m (crossing c h ∷ p)
crossing-falls m c zero p k f = f
crossing-falls m c (suc h) p k f = (omega arith, k, f)

graft-falls : (m : ℕ) (c : Item) (h : ℕ) (p : List (Entry Tree)) → h ≤ m → Falls m p → Falls m (graft_entries c h p)
graft-falls m c h [] k f = crossing-falls m c h [] k tt
graft-falls m c h (down l s ∷ p) k f = go (order h l) (λ e. graft-falls (pred l) c h p e f.2)
  where
    go : (h < l) ⊎ (l ≤ h) → (h ≤ pred l → Falls (pred l) (graft_entries c h p))
        → Falls m (graft_entries c h (down l s ∷ p))
    go (inl e) ih = rw (lt-ltb h l e) (f.0, f.1, ih (omega arith))
    go (inr e) ih = rw (le-ltb h l e) (crossing-falls m c h (down l s ∷ p) k (f.0, e, f.2))
graft-falls m c h (right l s ∷ p) k f = go (order h l)
  where
    go : (h < l) ⊎ (l ≤ h) → Falls m (graft_entries c h (right l s ∷ p))
    go (inl e) = rw (lt-ltb h l e) f
    go (inr e) = rw (le-ltb h l e) (crossing-falls m c h (right l s ∷ p) k (f.0, e, f.2))
graft-falls m c h (pass d ∷ p) k f = crossing-falls m c h (pass d ∷ p) k f

pub path_falls : (m : ℕ) (c : Item) (A B : List Column) → AtMost m A → AtMost m B → Falls m (entries_to c A B)
path_falls m c [] B a b = downs_fall trees m B b
path_falls m c (d ∷ A) B a b = graft-falls m c d.height (entries_to d.item A B) a.0
    (path_falls m d.item A B a.1 b)
