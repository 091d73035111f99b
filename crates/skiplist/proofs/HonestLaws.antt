-- The rules on honest paths, over any kind of sides: recomputing gives what stands for the row's tree, and Replace,
-- Insert, Delete and the removal of a run give what stands for the edited row's. Honest neighbours meet. Each is the
-- law on trees, carried over.
use Prim.Native.Nat.{ℕ, ◌≤◌}
use native.Mathlib.Omega.{arith}
use mathlib.Core.Path.{◌≡◌, ap, ap₂, sym, ◌∙◌}
use mathlib.Core.Bool.{Bool, true, false}
use mathlib.Core.Option.{some}
use mathlib.Core.List.{List, [], ◌∷◌, ◌++◌, map, append_assoc}
use Rattle.skiplist.specs.Row.{Item, Column, AtMost, weights, last_of}
use Rattle.skiplist.specs.Tree.{Tree, tree}
use Rattle.skiplist.specs.Sides.{Sides, trees, side_of}
use Rattle.skiplist.specs.Entry.{Entry, Place, map_place}
use Rattle.skiplist.specs.Recompute.{plug, whole}
use Rattle.skiplist.specs.Merge.{rights, downs, merge}
use Rattle.skiplist.specs.Path.{stop_side, entries_to, place}
use Rattle.skiplist.specs.Edits.{replaced, inserted}
use Rattle.skiplist.specs.Meeting.{parts, only_below, meets, remains, deleted, removed}
use Rattle.skiplist.specs.Leaves.{AllFit}
use Rattle.skiplist.proofs.Runs.{at_most_left, at_most-right, weights-append}
use Rattle.skiplist.proofs.PathLaws.{place-whole, path_falls}
use Rattle.skiplist.proofs.EditLaws.{insert-row, replace-row, remove_row}
use Rattle.skiplist.proofs.RankLaws.{place_position}
use Rattle.skiplist.proofs.GoodTree.{tree-good}
use Rattle.skiplist.proofs.MapLaws.{falls-map, rights-map, downs-map, merge-map}
use Rattle.skiplist.proofs.SideLaws.{entry_of, whole-side, replaced-side, inserted-side, part-side, only_side}
use Rattle.skiplist.proofs.MeetingLaws.{Part, part-parts, part-only, part-remains, tree-parts, tree-only_below}

module _ {S : Type 0} (𝓢 : Sides S) where
  -- the path to the last column of c and A, where B follows
  abbrev pub honest : Item → List Column → List Column → Place S
  honest c A B = map_place (side_of 𝓢) (place c A B)

  pub honest-whole : (c : Item) (A B : List Column) → whole 𝓢 (honest c A B) ≡ side_of 𝓢 (tree c (A ++ B))
  honest-whole c A B = whole-side 𝓢 (place c A B) ∙ ap (side_of 𝓢) (place-whole c A B)

  pub honest-replaced : (c : Item) (A : List Column) (x : Column) (y : Item) (B : List Column)
      → replaced 𝓢 y (honest c (A ++ x ∷ []) B) ≡ side_of 𝓢 (tree c (A ++ record { height = x.height; item = y } ∷ B))
  honest-replaced c A x y B = replaced-side 𝓢 y (place c (A ++ x ∷ []) B) ∙ ap (side_of 𝓢) (replace-row c A x y B)

  pub honest-inserted : (m : ℕ) (c : Item) (A : List Column) (x : Column) (B : List Column) → AtMost m (A ++ B)
      → x.height ≤ m
      → inserted 𝓢 x (honest c A B) ≡ side_of 𝓢 (tree c (A ++ x ∷ B))
  honest-inserted m c A x B low h =
      inserted-side 𝓢 x (place c A B)
      ∙ ap (side_of 𝓢) (insert-row m c A x B (at_most_left m A B low) (h, at_most-right m A B low))

-- THE REMOVAL of a run X that weighs something
module _ {S : Type 0} (𝓢 : Sides S) (eq : Discrete S) (m : ℕ) (c : Item) (A X B : List Column)
    (low : AtMost m (A ++ (X ++ B))) (full : 1 ≤ weights X) where
  first_path : List (Entry Tree)
  first_path = entries_to c A (X ++ B)

  second_path : List (Entry Tree)
  second_path = entries_to c (A ++ X) B

  low_a : AtMost m A
  low_a = at_most_left m A (X ++ B) low

  low_xb : AtMost m (X ++ B)
  low_xb = at_most-right m A (X ++ B) low

  low_b : AtMost m B
  low_b = at_most-right m X B low_xb

  low_ax : AtMost m (A ++ X)
  low_ax = at_most_left m (A ++ X) B (rw (append_assoc A X B) low)

  one_tree : whole trees (place c A (X ++ B)) ≡ whole trees (place c (A ++ X) B)
  one_tree = place-whole c A (X ++ B) ∙ ap (tree c) (sym (append_assoc A X B)) ∙ sym (place-whole c (A ++ X) B)

  on_trees : Part trees (last_of c A) (stop_side trees (X ++ B)) (last_of c (A ++ X))
      (stop_side trees B) first_path second_path
  unfolding first_path second_path
  on_trees = tree-parts (last_of c A) (stop_side trees (X ++ B)) (last_of c (A ++ X))
      (stop_side trees B) first_path second_path one_tree
      (omega (arith, full, place_position c A (X ++ B), place_position c (A ++ X) B, weights-append A X))

  on_sides : Part 𝓢 (last_of c A) (side_of 𝓢 (stop_side trees (X ++ B))) (last_of c (A ++ X))
      (side_of 𝓢 (stop_side trees B)) (map (entry_of 𝓢) first_path) (map (entry_of 𝓢) second_path)
  on_sides = part-side 𝓢 (last_of c A) (stop_side trees (X ++ B)) (last_of c (A ++ X)) (stop_side trees B) on_trees

  pub honest-parts : parts 𝓢 eq (honest 𝓢 c A (X ++ B)) (honest 𝓢 c (A ++ X) B) ≡ true
  unfolding first_path second_path
  honest-parts = part-parts 𝓢 eq (last_of c A) (side_of 𝓢 (stop_side trees (X ++ B))) (last_of c (A ++ X))
      (side_of 𝓢 (stop_side trees B)) on_sides

  pub honest-remains : remains 𝓢 eq (honest 𝓢 c A (X ++ B)) (honest 𝓢 c (A ++ X) B) ≡ side_of 𝓢 (tree c (A ++ B))
  unfolding first_path second_path
  honest-remains =
      part-remains 𝓢 eq (last_of c A) (side_of 𝓢 (stop_side trees (X ++ B))) (last_of c (A ++ X))
      (side_of 𝓢 (stop_side trees B)) m m on_sides
      (falls-map (side_of 𝓢) m first_path (path_falls m c A (X ++ B) low_a low_xb))
      (falls-map (side_of 𝓢) m second_path (path_falls m c (A ++ X) B low_ax low_b))
      ∙ ap (λ p. plug 𝓢 p (𝓢.leaf (last_of c A) (side_of 𝓢 (stop_side trees B))))
      (ap₂ merge (rights-map (side_of 𝓢) first_path) (downs-map (side_of 𝓢) second_path)
      ∙ merge-map (side_of 𝓢) (rights first_path) (downs second_path)
      ∙ ap (map (entry_of 𝓢)) (remove_row m c A X B low_a low_xb low_b))
      ∙ honest-whole 𝓢 c A B

  pub honest-removed : removed 𝓢 eq (honest 𝓢 c A (X ++ B)) (honest 𝓢 c (A ++ X) B) ≡ some (side_of 𝓢 (tree c (A ++ B)))
  honest-removed = rw honest-parts (ap some honest-remains)

  -- where X is one column, its leaf begins where the first one ends
  module _ (Fit : Bool → Item → Type 0) (heavy : (d : Item) → Fit false d → 1 ≤ d.own)
      (first : Fit true c) (blocks : AllFit Fit (A ++ (X ++ B))) (single : weights X ≡ (last_of c (A ++ X)).own) where
    pub honest_below : only_below 𝓢 eq (honest 𝓢 c A (X ++ B)) (honest 𝓢 c (A ++ X) B) ≡ true
    unfolding first_path second_path on_sides
    honest_below =
        part-only 𝓢 eq (last_of c A) (side_of 𝓢 (stop_side trees (X ++ B))) (last_of c (A ++ X))
        (side_of 𝓢 (stop_side trees B)) on_sides
        (only_side 𝓢 (last_of c A) (stop_side trees (X ++ B)) (last_of c (A ++ X)) (stop_side trees B) on_trees
        (tree-only_below (last_of c A) (stop_side trees (X ++ B)) (last_of c (A ++ X))
        (stop_side trees B) Fit heavy true on_trees
        (rw (place-whole c (A ++ X) B, append_assoc A X B) (tree-good Fit true c (A ++ (X ++ B)) first blocks))
        (omega (arith, single, place_position c A (X ++ B), place_position c (A ++ X) B, weights-append A X))))

    pub honest-meets : meets 𝓢 eq (honest 𝓢 c A (X ++ B)) (honest 𝓢 c (A ++ X) B) ≡ true
    honest-meets = rw (honest-parts, honest_below)

    pub honest-deleted : deleted 𝓢 eq (honest 𝓢 c A (X ++ B)) (honest 𝓢 c (A ++ X) B) ≡ some (side_of 𝓢 (tree c (A ++ B)))
    honest-deleted = rw honest-meets (ap some honest-remains)
