-- Document 01's three cases of the tree as equations of the computed tree, and that they say what it is: the relation
-- holds of the computed tree and of no other. Where a run's tallest column first stands is found by going through the
-- run from the right.
use Prim.Native.Nat.{ℕ, zero, suc, ◌≤◌, ◌<◌}
use native.Mathlib.Omega.{arith}
use mathlib.Core.Path.{◌≡◌, refl, ap, ap₂, sym, ◌∙◌, subst}
use mathlib.Core.Logic.{◌⊎◌, inl, inr}
use mathlib.Core.List.{List, [], ◌∷◌, ◌++◌}
use lib.ListN.{length, length-append}
use borrow.Author.Tests.{lt-ltb, le-ltb}
use Rattle.skiplist.specs.Row.{Item, Column, AtMost, Below}
use Rattle.skiplist.specs.Tree.{Tree, empty, leaf, node, TreeOf, alone, flat, tall, rise, graft, tree}
use Rattle.skiplist.proofs.Cases.{order}
use Rattle.skiplist.proofs.Runs.{at_most_up, below-at_most, at_most-append}

-- the level of a tree's root
abbrev top : Tree → ℕ
top empty = 0
top (leaf c r) = 0
top (node l a b) = l

graft-over : (c : Item) (h : ℕ) (t : Tree) → top t ≤ h → graft c h t ≡ rise c h t
graft-over c h empty e = refl
graft-over c h (leaf d r) e = refl
graft-over c h (node l a b) e = rw (le-ltb h l)

rise-top : (c : Item) (h : ℕ) (t : Tree) → top (rise c h t) ≡ h
rise-top c zero t = refl
rise-top c (suc h) t = refl

graft-top : (c : Item) (h m : ℕ) (t : Tree) → h ≤ m → top t ≤ m → top (graft c h t) ≤ m
graft-top c h m empty e f = rw (rise-top c h) e
graft-top c h m (leaf d r) e f = rw (rise-top c h) e
graft-top c h m (node l a b) e f = go (order h l)
  where
    go : (h < l) ⊎ (l ≤ h) → top (graft c h (node l a b)) ≤ m
    go (inl k) = rw (lt-ltb h l k) f
    go (inr k) = rw (le-ltb h l k, rise-top c h) e

tree-top : (c : Item) (m : ℕ) (R : List Column) → AtMost m R → top (tree c R) ≤ m
unfolding tree
tree-top c m [] a = omega arith
tree-top c m (d ∷ R) a = graft-top c d.height m (tree d.item R) a.0 (tree-top d.item m R a.1)

-- THE THREE CASES
pub tree-alone : (c : Item) → tree c [] ≡ leaf c empty
unfolding tree
tree-alone c = refl

pub tree-flat : (c : Item) (d : Column) (R : List Column) → AtMost 0 (d ∷ R) → tree c (d ∷ R) ≡ leaf c (tree d.item R)
unfolding tree
tree-flat c d R a =
    let z : d.height ≡ 0 = omega (arith, a.0) in
    rw z (graft-over c 0 (tree d.item R) (tree-top d.item 0 R a.1))

pub tree-tall : (c : Item) (A : List Column) (d : Column) (B : List Column) → 0 < d.height → Below d.height A
    → AtMost d.height B
    → tree c (A ++ d ∷ B) ≡ node d.height (tree c A) (tree d.item B)
unfolding tree
tree-tall c [] d B p a b =
    graft-over c d.height (tree d.item B) (tree-top d.item d.height B b) ∙ high d.height p
  where
    high : (h : ℕ) → 0 < h → rise c h (tree d.item B) ≡ node h (leaf c empty) (tree d.item B)
    high zero q = absurd (omega arith)
    high (suc h) q = refl
tree-tall c (x ∷ A) d B p a b = rw (tree-tall x.item A d B p a.1 b, lt-ltb x.height d.height a.0)

pub tree_only : (c : Item) (R : List Column) (t : Tree) → TreeOf c R t → t ≡ tree c R
tree_only c R t (alone {c = c'}) = sym (tree-alone c')
tree_only c R t (flat {c = c'} {d = d} {R = R'} {t = t'} a h) =
    ap (leaf c') (tree_only d.item R' t' h) ∙ sym (tree-flat c' d R' a)
tree_only c R t (tall {c = c'} {A = A} {d = d} {B = B} {s = s} {t = t'} k a b g h) =
    ap₂ (node d.height) (tree_only c' A s g) (tree_only d.item B t' h) ∙ sym (tree-tall c' A d B k a b)

-- where a run's tallest column first stands
record Tallest (R : List Column) : Type 0 where
  before : List Column
  it : Column
  after : List Column
  whole : R ≡ before ++ it ∷ after
  lower : Below it.height before
  upto : AtMost it.height after

-- no height of the run is above that column's
all_upto : (h : ℕ) (R : List Column) (t : Tallest R) → t.it.height ≤ h → AtMost h R
all_upto h R t k = subst (AtMost h) (sym t.whole)
    (at_most-append h t.before (t.it ∷ t.after) (below-at_most t.it.height h t.before k t.lower)
    (k, at_most_up t.it.height h t.after k t.upto))

tallest : (d : Column) (R : List Column) → Tallest (d ∷ R)
tallest d [] = record { before = []; it = d; after = []; whole = refl; lower = tt; upto = tt }
tallest d (e ∷ R) = go (tallest e R)
  where
    go : Tallest (e ∷ R) → Tallest (d ∷ e ∷ R)
    go t = pick (order d.height t.it.height)
      where
        pick : (d.height < t.it.height) ⊎ (t.it.height ≤ d.height) → Tallest (d ∷ e ∷ R)
        pick (inl k) = record {
          before = d ∷ t.before;
          it = t.it;
          after = t.after;
          whole = ap (λ r. d ∷ r) t.whole;
          lower = (k, t.lower);
          upto = t.upto;
        }
        pick (inr k) = record {
          before = [];
          it = d;
          after = e ∷ R;
          whole = refl;
          lower = tt;
          upto = all_upto d.height (e ∷ R) t k;
        }

is_by : (n : ℕ) (c : Item) (R : List Column) → length R ≤ n → TreeOf c R (tree c R)
is_by zero c [] k = rw (tree-alone c) alone
is_by zero c (d ∷ R) k = absurd (omega arith)
is_by (suc n) c [] k = rw (tree-alone c) alone
is_by (suc n) c (d ∷ R) k = go (λ e Q h. is_by n e Q h) (tallest d R) (order 0 (tallest d R).it.height)
  where
    go : ((e : Item) (Q : List Column) → length Q ≤ n → TreeOf e Q (tree e Q)) → (t : Tallest (d ∷ R))
        → (0 < t.it.height) ⊎ (t.it.height ≤ 0) → TreeOf c (d ∷ R) (tree c (d ∷ R))
    go rec t (inl p) =
        let size = ap length t.whole ∙ length-append t.before (t.it ∷ t.after) in
        subst (λ Q. TreeOf c Q (tree c Q)) (sym t.whole)
        (rw (tree-tall c t.before t.it t.after p t.lower t.upto)
        (tall p t.lower t.upto (rec c t.before (omega arith)) (rec t.it.item t.after (omega arith))))
    go rec t (inr p) =
        let low = all_upto 0 (d ∷ R) t p in
        rw (tree-flat c d R low) (flat low (rec d.item R (omega arith)))

pub tree_is : (c : Item) (R : List Column) → TreeOf c R (tree c R)
tree_is c R = is_by (length R) c R (omega arith)
