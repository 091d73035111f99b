-- Replace, Insert and the removal of a run on the path made from the row: document 01's rules give the tree of the
-- edited row. By the merge of right and down entries, Insert closes the down entries under the new column, and a
-- removal takes the right entries of the first path and the down entries of the second.
use Prim.Native.Nat.{ℕ, zero, suc, pred, ◌≤◌, ◌<◌}
use native.Mathlib.Omega.{arith}
use mathlib.Core.Path.{◌≡◌, refl, ap, ap₂, sym, ◌∙◌}
use mathlib.Core.Logic.{◌⊎◌, inl, inr}
use mathlib.Core.List.{List, [], ◌∷◌, ◌++◌, append_assoc}
use borrow.Author.Tests.{lt-ltb, le-ltb, le-leb, lt-leb}
use Rattle.skiplist.specs.Row.{Item, Column, AtMost, last_of}
use Rattle.skiplist.specs.Tree.{Tree, leaf, tree}
use Rattle.skiplist.specs.Sides.{trees}
use Rattle.skiplist.specs.Entry.{Entry, down, right, pass, Falls}
use Rattle.skiplist.specs.Recompute.{plug}
use Rattle.skiplist.specs.Merge.{rights, downs, merge}
use Rattle.skiplist.specs.Path.{closed, beside, stop_side, graft_entries, entries_to, place}
use Rattle.skiplist.specs.Edits.{kept, remaining, replaced, seated, inserted}
use Rattle.skiplist.proofs.Cases.{order}
use Rattle.skiplist.proofs.Runs.{last-snoc}
use Rattle.skiplist.proofs.PathLaws.{place-whole, path_falls}
use Rattle.skiplist.proofs.MergeLaws.{Top, top_up, closed_low, closed-top, downs-top, rights-top, merge_none}
use Rattle.skiplist.proofs.MergeLaws.{merge_first, merge-down, rights_path, downs_path, path_merge}

-- INSERT
module _ (x : Item) (c : Item) (r : Tree) where
  -- what Insert makes of the entries p, and what the merge makes of them
  abbrev put : ℕ → List (Entry Tree) → Tree
  put h p = plug trees (kept h p) (seated trees h x (remaining h p) c r)

  abbrev merged : ℕ → List (Entry Tree) → List (Entry Tree) → Tree
  merged h es ds = plug trees (merge es (closed trees h (leaf x r) ds)) (leaf c (beside trees h (leaf x r)))

  seated-merged : (h : ℕ) (p : List (Entry Tree)) → 0 < h → Top h (downs p) → Top (pred h) (rights p)
      → seated trees h x p c r ≡ merged h (rights p) (downs p)
  seated-merged zero p k d f = absurd (omega arith)
  seated-merged (suc h) p k d f = rw (
    closed_low trees (suc h) (leaf x r) (downs p) d,
    merge-down (suc h) (plug trees (downs p) (leaf x r)) (rights p) [] k f,
    merge_none (rights p),
  )

  put-merged : (b h : ℕ) (p : List (Entry Tree)) → Falls b p → put h p ≡ merged h (rights p) (downs p)
  put-merged b zero [] f = refl
  put-merged b (suc h) [] f = refl
  put-merged b h (down l s ∷ p) f = go (order h l) (put-merged (pred l) h p f.2)
    where
      go : (h < l) ⊎ (l ≤ h) → put h p ≡ merged h (rights p) (downs p)
          → put h (down l s ∷ p) ≡ merged h (rights p) (down l s ∷ downs p)
      go (inl k) ih = rw (
        lt-ltb h l k,
        ih,
        merge-down l s (rights p) (closed trees h (leaf x r) (downs p)) f.0 (rights-top (pred l) p f.2),
      )
      go (inr k) ih =
          let low : put h (down l s ∷ p) ≡ seated trees h x (down l s ∷ p) c r = rw (le-ltb h l k) in
          low ∙ seated-merged h (down l s ∷ p) (omega (arith, f.0)) k
          (top_up (pred l) (pred h) (rights p) (omega (arith, f.0)) (rights-top (pred l) p f.2))
  put-merged b h (right l s ∷ p) f = go (order l h) (put-merged l h p f.2)
    where
      go : (l < h) ⊎ (h ≤ l) → put h p ≡ merged h (rights p) (downs p)
          → put h (right l s ∷ p) ≡ merged h (right l s ∷ rights p) (downs p)
      go (inl k) ih =
          let low : put h (right l s ∷ p) ≡ seated trees h x (right l s ∷ p) c r = rw (lt-leb h l k) in
          low ∙ seated-merged h (right l s ∷ p) (omega arith)
          (top_up l h (downs p) (omega arith) (downs-top l p f.2)) (omega arith)
      go (inr k) ih = rw (
        le-leb h l k,
        ih,
        merge_first (right l s) (rights p) (closed trees h (leaf x r) (downs p))
            (closed-top trees l h (leaf x r) (downs p) k (downs-top l p f.2)),
      )
  put-merged b h (pass d ∷ p) f = go (order 0 h) (put-merged 0 h p f)
    where
      go : (0 < h) ⊎ (h ≤ 0) → put h p ≡ merged h (rights p) (downs p)
          → put h (pass d ∷ p) ≡ merged h (pass d ∷ rights p) (downs p)
      go (inl k) ih =
          let low : put h (pass d ∷ p) ≡ seated trees h x (pass d ∷ p) c r = rw (lt-leb h 0 k) in
          low ∙ seated-merged h (pass d ∷ p) k (top_up 0 h (downs p) (omega arith) (downs-top 0 p f)) (omega arith)
      go (inr k) ih = rw (
        le-leb h 0 k,
        ih,
        merge_first (pass d) (rights p) (closed trees h (leaf x r) (downs p))
            (closed-top trees 0 h (leaf x r) (downs p) k (downs-top 0 p f)),
      )

pub insert-row : (m : ℕ) (c : Item) (A : List Column) (x : Column) (B : List Column) → AtMost m A → AtMost m (x ∷ B)
    → inserted trees x (place c A B) ≡ tree c (A ++ x ∷ B)
insert-row m c A x B a b =
    put-merged x.item (last_of c A) (stop_side trees B) m x.height (entries_to c A B) (path_falls m c A B a b.1)
    ∙ ap (λ p. plug trees p (leaf (last_of c A) (stop_side trees (x ∷ B))))
    (ap₂ merge (rights_path m c A B a b.1)
    (ap (closed trees x.height (leaf x.item (stop_side trees B))) (downs_path c A B))
    ∙ sym (path_merge m c A (x ∷ B) a b))
    ∙ place-whole c A (x ∷ B)

-- REPLACE: a column's own item is not in its path
path_item : (c : Item) (A : List Column) (x : Column) (y : Item) (B : List Column)
    → entries_to c (A ++ x ∷ []) B ≡ entries_to c (A ++ record { height = x.height; item = y } ∷ []) B
path_item c [] x y B = refl
path_item c (d ∷ A) x y B = ap (graft_entries c d.height) (path_item d.item A x y B)

pub replace-row : (c : Item) (A : List Column) (x : Column) (y : Item) (B : List Column)
    → replaced trees y (place c (A ++ x ∷ []) B) ≡ tree c (A ++ record { height = x.height; item = y } ∷ B)
replace-row c A x y B =
    ap (λ p. plug trees p (leaf y (stop_side trees B))) (path_item c A x y B)
    ∙ ap (λ i. plug trees (entries_to c (A ++ x' ∷ []) B) (leaf i (stop_side trees B))) (sym (last-snoc c A x'))
    ∙ place-whole c (A ++ x' ∷ []) B ∙ ap (tree c) (append_assoc A (x' ∷ []) B)
  where
    x' : Column
    x' = record { height = x.height; item = y }

-- THE REMOVAL of a run X, from the paths to the column before it and to its last
pub remove_row : (m : ℕ) (c : Item) (A X B : List Column) → AtMost m A → AtMost m (X ++ B) → AtMost m B
    → merge (rights (entries_to c A (X ++ B))) (downs (entries_to c (A ++ X) B)) ≡ entries_to c A B
remove_row m c A X B a xb b =
    ap₂ merge (rights_path m c A (X ++ B) a xb) (downs_path c (A ++ X) B) ∙ sym (path_merge m c A B a b)
