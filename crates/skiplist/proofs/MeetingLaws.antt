-- Two paths of one tree part at one place, where each one's side is what the other recomputes: so the test `parts`
-- passes, and what remains is the merge of the first's right entries with the second's down entries. Where the second
-- column stands right after the first, `only_below` passes too.
use Prim.Native.Nat.{ℕ, ◌+◌, ◌≤◌, ◌<◌}
use native.Mathlib.Omega.{arith}
use mathlib.Core.Path.{◌≡◌, refl, ap, ap₂, sym}
use mathlib.Core.Bool.{Bool, true, false}
use mathlib.Core.List.{List, [], ◌∷◌}
use borrow.Author.Tests.{eq-eqb}
use Rattle.skiplist.specs.Row.{Item}
use Rattle.skiplist.specs.Tree.{Tree, leaf, node, rank}
use Rattle.skiplist.specs.Sides.{Sides, trees}
use Rattle.skiplist.specs.Entry.{Entry, down, right, pass, Falls}
use Rattle.skiplist.specs.Recompute.{plug, passed}
use Rattle.skiplist.specs.Merge.{rights, downs, only_rights, only_downs, merge}
use Rattle.skiplist.specs.Equal.{item-discrete}
use Rattle.skiplist.specs.Meeting.{parts, only_below, remains}
use Rattle.skiplist.proofs.Cases.{is_yes, never}
use Rattle.skiplist.proofs.EqualLaws.{same_equal}
use Rattle.skiplist.proofs.MergeLaws.{merge_shared, falls_tail}
use Rattle.skiplist.proofs.RankLaws.{position_le}
use Rattle.skiplist.proofs.GoodTree.{Good, last_rights, first_downs}

-- the paths p and q, with the stops c, r and x, u, share entries; then the first goes down and the second right, or
-- the first stops
pub data Part {S : Type 0} (𝓢 : Sides S) (c : Item) (r : S) (x : Item) (u : S) : List (Entry S) → List (Entry S)
    → Type 0 where
  shared : {e d : Entry S} {p q : List (Entry S)} → e ≡ d → Part 𝓢 c r x u p q → Part 𝓢 c r x u (e ∷ p) (d ∷ q)
  forked : {l k : ℕ} {s t : S} {p q : List (Entry S)} → l ≡ k → s ≡ plug 𝓢 q (𝓢.leaf x u) → t ≡ plug 𝓢 p (𝓢.leaf c r)
      → Part 𝓢 c r x u (down l s ∷ p) (right k t ∷ q)
  stopped : {d : Item} {q : List (Entry S)} → c ≡ d → r ≡ plug 𝓢 q (𝓢.leaf x u) → Part 𝓢 c r x u [] (pass d ∷ q)

-- below the place where they part: only right entries, only down entries
abbrev pub Only : {S : Type 0} {𝓢 : Sides S} {c : Item} {r : S} {x : Item} {u : S} {p q : List (Entry S)}
    → Part 𝓢 c r x u p q → Type 0
Only (shared i m) = Only m
Only (forked {p = p} {q = q} i j n) = (only_rights p ≡ true) × (only_downs q ≡ true)
Only (stopped {q = q} i j) = only_downs q ≡ true

-- ANY SIDES
module _ {S : Type 0} (𝓢 : Sides S) (eq : Discrete S) (c : Item) (r : S) (x : Item) (u : S) where
  pub part-parts : {p q : List (Entry S)} → Part 𝓢 c r x u p q
      → parts 𝓢 eq (record { entries = p; item = c; side = r }) (record { entries = q; item = x; side = u }) ≡ true
  part-parts (shared {e = e} {d = d} i m) = rw (same_equal eq e d i) (part-parts m)
  part-parts (forked {l = l} {k = k} {s = s} {t = t} {p = p} {q = q} i j n) =
      rw (eq-eqb l k i, is_yes (eq s (plug 𝓢 q (𝓢.leaf x u))) j, is_yes (eq t (plug 𝓢 p (𝓢.leaf c r))) n)
  part-parts (stopped {d = d} {q = q} i j) = rw (is_yes (item-discrete c d) i, is_yes (eq r (plug 𝓢 q (𝓢.leaf x u))) j)

  pub part-only : {p q : List (Entry S)} (m : Part 𝓢 c r x u p q) → Only m
      → only_below 𝓢 eq (record { entries = p; item = c; side = r }) (record { entries = q; item = x; side = u }) ≡ true
  part-only (shared {e = e} {d = d} i m) o = rw (same_equal eq e d i) (part-only m o)
  part-only (forked i j n) o = rw (o.0, o.1)
  part-only (stopped i j) o = o

  pub part-remains : (a b : ℕ) {p q : List (Entry S)} → Part 𝓢 c r x u p q → Falls a p → Falls b q
      → remains 𝓢 eq (record { entries = p; item = c; side = r }) (record { entries = q; item = x; side = u })
      ≡ plug 𝓢 (merge (rights p) (downs q)) (𝓢.leaf c u)
  part-remains a b (shared {e = e} {d = d} {p = p} {q = q} i m) f g =
      let f' = falls_tail a e p f in
      let g' = falls_tail b d q g in
      rw (same_equal eq e d i, ← i)
      (rw (part-remains f'.0 g'.0 m f'.1 g'.1, merge_shared a b e p q f (rw i g)))
  part-remains a b (forked i j n) f g = refl
  part-remains a b (stopped i j) f g = refl

-- TREES
leaf_inj : {c d : Item} {r s : Tree} → leaf c r ≡ leaf d s → (c ≡ d) × (r ≡ s)
leaf_inj e = (cc, cc)

node_inj : {l k : ℕ} {a b s t : Tree} → node l a b ≡ node k s t → (l ≡ k) × (a ≡ s) × (b ≡ t)
node_inj e = (cc, cc, cc)

leaf-node : {P : Type 0} {c : Item} {r a b : Tree} {l : ℕ} → leaf c r ≡ node l a b → P
leaf-node e = never cc

module _ (c : Item) (r : Tree) (x : Item) (u : Tree) where
  -- the second column stands after the first
  pub tree-parts : (p q : List (Entry Tree)) → plug trees p (leaf c r) ≡ plug trees q (leaf x u)
      → passed trees p + c.own < passed trees q + x.own → Part trees c r x u p q
  tree-parts [] [] e k = absurd (omega (arith, ap (λ (i : Item). i.own) (leaf_inj e).0))
  tree-parts [] (down l s ∷ q) e k = leaf-node e
  tree-parts [] (right l s ∷ q) e k = leaf-node e
  tree-parts [] (pass d ∷ q) e k = stopped (leaf_inj e).0 (leaf_inj e).1
  tree-parts (down l s ∷ p) [] e k = leaf-node (sym e)
  tree-parts (down l s ∷ p) (down m t ∷ q) e k = let i = node_inj e in shared (ap₂ down i.0 i.2)
      (tree-parts p q i.1 (omega arith))
  tree-parts (down l s ∷ p) (right m t ∷ q) e k = let i = node_inj e in forked i.0 i.2 (sym i.1)
  tree-parts (down l s ∷ p) (pass d ∷ q) e k = leaf-node (sym e)
  tree-parts (right l s ∷ p) [] e k = leaf-node (sym e)
  tree-parts (right l s ∷ p) (down m t ∷ q) e k = let i = node_inj e in
      absurd (omega (arith, ap rank i.1, position_le q x u))
  tree-parts (right l s ∷ p) (right m t ∷ q) e k =
      let i = node_inj e in shared (ap₂ right i.0 i.1) (tree-parts p q i.2 (omega (arith, ap rank i.1)))
  tree-parts (right l s ∷ p) (pass d ∷ q) e k = leaf-node (sym e)
  tree-parts (pass d ∷ p) [] e k = absurd (omega (arith, ap (λ (i : Item). i.own) (leaf_inj e).0))
  tree-parts (pass d ∷ p) (down l s ∷ q) e k = leaf-node e
  tree-parts (pass d ∷ p) (right l s ∷ q) e k = leaf-node e
  tree-parts (pass d ∷ p) (pass a ∷ q) e k =
      let i = leaf_inj e in shared (ap pass i.0)
      (tree-parts p q i.1 (omega (arith, ap (λ (j : Item). j.own) i.0)))

  -- and right after it
  pub tree-only_below : (Fit : Bool → Item → Type 0) (heavy : (d : Item) → Fit false d → 1 ≤ d.own) (f : Bool)
      {p q : List (Entry Tree)} (m : Part trees c r x u p q) → Good Fit f (plug trees q (leaf x u))
      → passed trees q ≡ passed trees p + c.own → Only m
  tree-only_below Fit heavy f (shared {e = down l s} {d = down k t} i m) g n = tree-only_below Fit heavy f m g.3 n
  tree-only_below Fit heavy f (shared {e = down l s} {d = right k t} i m) g n = never cc
  tree-only_below Fit heavy f (shared {e = down l s} {d = pass d} i m) g n = never cc
  tree-only_below Fit heavy f (shared {e = right l s} {d = down k t} i m) g n = never cc
  tree-only_below Fit heavy f (shared {e = right l s} {d = right k t} i m) g n =
      let w : s ≡ t = cc in tree-only_below Fit heavy false m g.4 (omega (arith, ap rank w))
  tree-only_below Fit heavy f (shared {e = right l s} {d = pass d} i m) g n = never cc
  tree-only_below Fit heavy f (shared {e = pass d} {d = down k t} i m) g n = never cc
  tree-only_below Fit heavy f (shared {e = pass d} {d = right k t} i m) g n = never cc
  tree-only_below Fit heavy f (shared {e = pass d} {d = pass a} i m) g n =
      let w : d ≡ a = cc in tree-only_below Fit heavy false m g.1 (omega (arith, ap (λ (j : Item). j.own) w))
  tree-only_below Fit heavy f (forked {t = t} {p = p} {q = q} i j e) g n =
      let w = position_le p c r in
      let v = ap rank e in
      (last_rights Fit heavy f p c r (rw e at g.3) (omega arith), first_downs Fit heavy q x u g.4 (omega arith))
  tree-only_below Fit heavy f (stopped {q = q} i j) g n =
      first_downs Fit heavy q x u g.1 (omega (arith, ap (λ (j : Item). j.own) i))
