-- A path is the merge of its right entries and its down entries, since levels fall; and its right entries come from
-- the columns up to its own alone, its down entries from the columns that follow alone.
use Prim.Native.Nat.{ℕ, zero, suc, pred, ◌≤◌, ◌<◌}
use native.Mathlib.Omega.{arith}
use mathlib.Core.Path.{◌≡◌, refl, ap, ap₂, sym, ◌∙◌}
use mathlib.Core.Logic.{◌⊎◌, inl, inr}
use mathlib.Core.List.{List, [], ◌∷◌}
use borrow.Author.Tests.{lt-ltb, le-ltb, le-leb, lt-leb}
use Rattle.skiplist.specs.Row.{Item, Column, AtMost}
use Rattle.skiplist.specs.Tree.{Tree}
use Rattle.skiplist.specs.Sides.{Sides, trees}
use Rattle.skiplist.specs.Entry.{Entry, down, right, pass, level, Falls}
use Rattle.skiplist.specs.Recompute.{plug}
use Rattle.skiplist.specs.Merge.{rights, downs, merge}
use Rattle.skiplist.specs.Path.{opened, closed, down_entries, crossing, graft_entries, entries_to, right_entries}
use Rattle.skiplist.proofs.Cases.{order}
use Rattle.skiplist.proofs.DownLaws.{AllDown, entries_down}
use Rattle.skiplist.proofs.PathLaws.{path_falls}

-- ANY PATH WHOSE LEVELS FALL
module _ {S : Type 0} where
  -- the first entry's level is at most b
  abbrev pub Top : ℕ → List (Entry S) → Type 0
  Top b [] = Unit {0}
  Top b (e ∷ p) = level e ≤ b

  pub top_up : (a b : ℕ) (p : List (Entry S)) → a ≤ b → Top a p → Top b p
  top_up a b [] k t = tt
  top_up a b (e ∷ p) k t = omega arith

  pub downs-top : (b : ℕ) (p : List (Entry S)) → Falls b p → Top b (downs p)
  downs-top b [] f = tt
  downs-top b (down l s ∷ p) f = f.1
  downs-top b (right l s ∷ p) f = top_up l b (downs p) f.1 (downs-top l p f.2)
  downs-top b (pass c ∷ p) f = top_up 0 b (downs p) (omega arith) (downs-top 0 p f)

  pub rights-top : (b : ℕ) (p : List (Entry S)) → Falls b p → Top b (rights p)
  rights-top b [] f = tt
  rights-top b (down l s ∷ p) f = top_up (pred l) b (rights p) (omega (arith, f.1)) (rights-top (pred l) p f.2)
  rights-top b (right l s ∷ p) f = f.1
  rights-top b (pass c ∷ p) f = omega arith

  pub merge_none : (es : List (Entry S)) → merge es [] ≡ es
  merge_none [] = refl
  merge_none (e ∷ es) = refl

  pub merge_first : (e : Entry S) (es ds : List (Entry S)) → Top (level e) ds → merge (e ∷ es) ds ≡ e ∷ merge es ds
  merge_first e es [] t = ap (λ q. e ∷ q) (sym (merge_none es))
  merge_first e es (d ∷ ds) t = rw (le-leb (level d) (level e) t)

  pub merge-down : (l : ℕ) (s : S) (es ds : List (Entry S)) → 1 ≤ l → Top (pred l) es
      → merge es (down l s ∷ ds) ≡ down l s ∷ merge es ds
  merge-down l s [] ds k t = refl
  merge-down l s (e ∷ es) ds k t = rw (lt-leb l (level e) (omega arith))

  -- an entry that two paths share
  pub merge_shared : (a b : ℕ) (e : Entry S) (p q : List (Entry S)) → Falls a (e ∷ p) → Falls b (e ∷ q)
      → merge (rights (e ∷ p)) (downs (e ∷ q)) ≡ e ∷ merge (rights p) (downs q)
  merge_shared a b (down l s) p q f g = merge-down l s (rights p) (downs q) f.0 (rights-top (pred l) p f.2)
  merge_shared a b (right l s) p q f g = merge_first (right l s) (rights p) (downs q) (downs-top l q g.2)
  merge_shared a b (pass c) p q f g = merge_first (pass c) (rights p) (downs q) (downs-top 0 q g)

  pub falls_tail : (b : ℕ) (e : Entry S) (p : List (Entry S)) → Falls b (e ∷ p) → (n : ℕ) × Falls n p
  falls_tail b (down l s) p f = (pred l, f.2)
  falls_tail b (right l s) p f = (l, f.2)
  falls_tail b (pass c) p f = (0, f)

  pub merge-whole : (b : ℕ) (p : List (Entry S)) → Falls b p → merge (rights p) (downs p) ≡ p
  merge-whole b [] f = refl
  merge-whole b (e ∷ p) f =
      let t = falls_tail b e p f in merge_shared b b e p p f f ∙ ap (λ q. e ∷ q) (merge-whole t.0 p t.1)

  all_rights : (p : List (Entry S)) → AllDown p → rights p ≡ []
  all_rights [] a = refl
  all_rights (down l s ∷ p) a = all_rights p a.1
  all_rights (right l s ∷ p) a = absurd a
  all_rights (pass c ∷ p) a = absurd a

  all_downs : (p : List (Entry S)) → AllDown p → downs p ≡ p
  all_downs [] a = refl
  all_downs (down l s ∷ p) a = rw (all_downs p a.1)
  all_downs (right l s ∷ p) a = absurd a
  all_downs (pass c ∷ p) a = absurd a

-- DOWN ENTRIES CLOSED UNDER A COLUMN of height h
module _ {S : Type 0} (𝓢 : Sides S) where
  -- where all are at most h, one node is left
  pub closed_low : (h : ℕ) (t : S) (p : List (Entry S)) → Top h p → closed 𝓢 h t p ≡ opened 𝓢 h (plug 𝓢 p t)
  closed_low h t [] k = refl
  closed_low h t (e ∷ p) k = rw (le-ltb h (level e) k)

  opened-top : (b h : ℕ) (t : S) → h ≤ b → Top b (opened 𝓢 h t)
  opened-top b zero t k = tt
  opened-top b (suc h) t k = k

  pub closed-top : (b h : ℕ) (t : S) (p : List (Entry S)) → h ≤ b → Top b p → Top b (closed 𝓢 h t p)
  closed-top b h t [] k f = opened-top b h t k
  closed-top b h t (e ∷ p) k f = go (order h (level e))
    where
      go : (h < level e) ⊎ (level e ≤ h) → Top b (closed 𝓢 h t (e ∷ p))
      go (inl a) = rw (lt-ltb h (level e) a) f
      go (inr a) = rw (le-ltb h (level e) a) (opened-top b h _ k)

-- THE PATH MADE FROM THE ROW
downs-crossing : (c : Item) (k : ℕ) (p : List (Entry Tree)) → downs (crossing c k ∷ p) ≡ downs p
downs-crossing c zero p = refl
downs-crossing c (suc k) p = refl

downs-graft : (c : Item) (k : ℕ) (p : List (Entry Tree)) → downs (graft_entries c k p) ≡ downs p
downs-graft c k [] = downs-crossing c k []
downs-graft c k (down l s ∷ p) = go (order k l) (downs-graft c k p)
  where
    go : (k < l) ⊎ (l ≤ k) → downs (graft_entries c k p) ≡ downs p
        → downs (graft_entries c k (down l s ∷ p)) ≡ downs (down l s ∷ p)
    go (inl a) ih = rw (lt-ltb k l a, ih)
    go (inr a) ih = rw (le-ltb k l a) (downs-crossing c k (down l s ∷ p))
downs-graft c k (right l s ∷ p) = go (order k l)
  where
    go : (k < l) ⊎ (l ≤ k) → downs (graft_entries c k (right l s ∷ p)) ≡ downs p
    go (inl a) = rw (lt-ltb k l a)
    go (inr a) = rw (le-ltb k l a) (downs-crossing c k (right l s ∷ p))
downs-graft c k (pass d ∷ p) = downs-crossing c k (pass d ∷ p)

rights-crossing : (c : Item) (h : ℕ) (p : List (Entry Tree)) → rights (crossing c h ∷ p) ≡ crossing c h ∷ rights p
rights-crossing c zero p = refl
rights-crossing c (suc h) p = refl

pub graft-crossing : (c : Item) (h : ℕ) (p : List (Entry Tree)) → Top h p → graft_entries c h p ≡ crossing c h ∷ p
graft-crossing c h [] t = refl
graft-crossing c h (down l s ∷ p) t = rw (le-ltb h l t)
graft-crossing c h (right l s ∷ p) t = rw (le-ltb h l t)
graft-crossing c h (pass d ∷ p) t = refl

rights-graft : (b : ℕ) (c : Item) (h : ℕ) (p : List (Entry Tree)) → Falls b p
    → rights (graft_entries c h p) ≡ graft_entries c h (rights p)
rights-graft b c h [] f = rights-crossing c h []
rights-graft b c h (down l s ∷ p) f = go (order h l) (rights-graft (pred l) c h p f.2)
  where
    go : (h < l) ⊎ (l ≤ h) → rights (graft_entries c h p) ≡ graft_entries c h (rights p)
        → rights (graft_entries c h (down l s ∷ p)) ≡ graft_entries c h (rights p)
    go (inl k) ih = rw (lt-ltb h l k) ih
    go (inr k) ih = rw (le-ltb h l k)
        (rights-crossing c h (down l s ∷ p)
        ∙ sym (graft-crossing c h (rights p) (top_up (pred l) h (rights p) (omega arith) (rights-top (pred l) p f.2))))
rights-graft b c h (right l s ∷ p) f = go (order h l)
  where
    go : (h < l) ⊎ (l ≤ h) → rights (graft_entries c h (right l s ∷ p)) ≡ graft_entries c h (right l s ∷ rights p)
    go (inl k) = rw (lt-ltb h l k)
    go (inr k) = rw (le-ltb h l k) (rights-crossing c h (right l s ∷ p))
rights-graft b c h (pass d ∷ p) f = rights-crossing c h (pass d ∷ p)

pub rights_path : (m : ℕ) (c : Item) (A B : List Column) → AtMost m A → AtMost m B
    → rights (entries_to c A B) ≡ right_entries c A
rights_path m c [] B a b = all_rights (down_entries trees B) (entries_down trees B)
rights_path m c (d ∷ A) B a b =
    rights-graft m c d.height (entries_to d.item A B) (path_falls m d.item A B a.1 b)
    ∙ ap (graft_entries c d.height) (rights_path m d.item A B a.1 b)

pub downs_path : (c : Item) (A B : List Column) → downs (entries_to c A B) ≡ down_entries trees B
downs_path c [] B = all_downs (down_entries trees B) (entries_down trees B)
downs_path c (d ∷ A) B = downs-graft c d.height (entries_to d.item A B) ∙ downs_path d.item A B

pub path_merge : (m : ℕ) (c : Item) (A B : List Column) → AtMost m A → AtMost m B
    → entries_to c A B ≡ merge (right_entries c A) (down_entries trees B)
path_merge m c A B a b =
    sym (merge-whole m (entries_to c A B) (path_falls m c A B a b))
    ∙ ap₂ merge (rights_path m c A B a b) (downs_path c A B)
