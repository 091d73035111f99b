-- Counting a path's entries by heights, and the nearest column that is tall enough: one turn of each loop.
-- Assumes nothing.
use Prim.Native.Nat.{ℕ, suc, ◌+◌, ◌-◌, ◌≤◌, ◌<◌}
use native.Mathlib.Omega.{arith}
use mathlib.Core.Path.{◌≡◌, refl, ap, sym, ◌∙◌}
use mathlib.Core.Bool.{Bool, true, false, cond}
use mathlib.Core.List.{List, [], ◌∷◌, ◌++◌, append-nil}
use lib.Dec.{ltb}
use lib.ListN.{length}
use borrow.Author.Tests.{lt-ltb, le-ltb}
use Rattle.skiplist.specs.Row.{Column}
use Rattle.skiplist.specs.Length.{tallest, right_columns, down_columns}
use Rattle.skiplist.specs.Blocks.{column, row}
use Rattle.archive.specs.Reading.{height_at, block_at, blocks_from}
use Rattle.archive.proofs.RecordLaws.{next_block, no_blocks}
use Rattle.store.specs.declared.plan.Mark.{Mark}
use Rattle.store.specs.Passes.{run_of, mark_of, marked, risen, onto, nearest}
use Rattle.store.proofs.RunLaws.{run_front, run_none}

-- ---- right entries, from the right
pub onto_none : (b : List ℕ) (m : Mark) (p : ℕ) → m ≡ onto m (run_of b p p)
unfolding onto
onto_none b m p = rw (run_none b p p (omega arith), no_blocks b p)

pub onto_next : (b : List ℕ) (m : Mark) (to from j h : ℕ) (t x : Mark) → to < j → j ≤ from → h ≡ height_at b (j - 1)
    → t ≡ onto m (run_of b j from) → x ≡ marked t h → x ≡ onto m (run_of b (j - 1) from)
unfolding onto
onto_next b m to from j h t x a k eh et ex =
    ex ∙ rw (et, eh) (ap (λ q. onto m (row q)) (sym (run_front b j from (omega arith) k)))

pub marked_more : (m : Mark) (h : ℕ) (x : Mark) → x ≡ marked m h → m.count ≤ x.count
marked_more m h x e = rw e (go (ltb h m.level))
  where
    go : (t : Bool) → m.count ≤ (cond t m (record { level = h; count = m.count + 1 })).count
    go true = omega arith
    go false = omega arith

-- the marks of a run and of what stands behind it
mark-column : (d : Column) (A : List Column) → marked (mark_of A) d.height ≡ mark_of (d ∷ A)
mark-column d A = go (ltb d.height (tallest A))
  where
    go : (c : Bool) → cond c (mark_of A) (record { level = d.height; count = length (right_columns A) + 1 })
        ≡ record {
          level = cond c (tallest A) d.height;
          count = length
              (cond c (right_columns A) (d ∷ right_columns A));
        }
    go true = refl
    go false = let e : length (right_columns A) + 1 ≡ suc (length (right_columns A)) = omega arith in rw e

pub onto_marks : (A B : List Column) → onto (mark_of B) A ≡ mark_of (A ++ B)
unfolding onto
onto_marks [] B = refl
onto_marks (d ∷ A) B = rw (onto_marks A B) (mark-column d (A ++ B))

pub onto-mark : (A : List Column) → onto (record { level = 0; count = 0 }) A ≡ mark_of A
onto-mark A = onto_marks A [] ∙ ap mark_of (append-nil A)

pub ruleset marks = (onto-mark)

-- ---- down entries, from the left
-- how many columns of the run B are taller than the mark and all before them, and those that are counted already
abbrev pub climbing : Mark → List Column → ℕ
climbing m B = m.count + length (down_columns m.level B)

climb_column : (m : Mark) (d : Column) (B : List Column) → climbing (risen m d.height) B ≡ climbing m (d ∷ B)
climb_column m d B = go (ltb m.level d.height)
  where
    go : (c : Bool) → climbing (cond c (record { level = d.height; count = m.count + 1 }) m) B
        ≡ m.count + length (cond c (d ∷ down_columns d.height B) (down_columns m.level B))
    go true = omega arith
    go false = refl

pub climb_next : (b : List ℕ) (n j h : ℕ) (m x : Mark) → j < n → h ≡ height_at b j → x ≡ risen m h
    → climbing x (run_of b (j + 1) n) ≡ climbing m (run_of b j n)
climb_next b n j h m x k eh ex =
    let q : n - j ≡ suc (n - (j + 1)) = omega arith in
    let s : suc j ≡ j + 1 = omega arith in
    let f : run_of b j n ≡ column (block_at b j) ∷ run_of b (j + 1) n =
    ap row (ap (blocks_from b j) q ∙ next_block b j (n - (j + 1))
    ∙ ap (λ (k : ℕ). block_at b j ∷ blocks_from b k (n - (j + 1))) s) in
    rw (ex, eh, f) (climb_column m (column (block_at b j)) (run_of b (j + 1) n))

pub climb_end : (b : List ℕ) (n j : ℕ) (m : Mark) → n ≤ j → climbing m (run_of b j n) ≡ m.count
climb_end b n j m k = rw (run_none b j n k, no_blocks b j) (omega arith)

pub ruleset climbs = (climb_next, climb_end)

-- ---- the nearest column
module _ (b : List ℕ) (h i x : ℕ) (some : 0 < i) (ex : x ≡ height_at b (i - 1)) where
  before : i ≡ suc (i - 1)
  before = omega arith

  pub nearest_stop : h ≤ x → nearest b h i ≡ i
  unfolding nearest
  nearest_stop k = ap (nearest b h) before ∙ rw (le-ltb (height_at b (i - 1)) h (rw ex at k)) (sym before)

  pub nearest_on : x < h → nearest b h (i - 1) ≡ nearest b h i
  unfolding nearest
  nearest_on k = sym (ap (nearest b h) before ∙ rw (lt-ltb (height_at b (i - 1)) h (rw ex at k)))

pub nearest_none : (b : List ℕ) (h i : ℕ) → i ≤ 0 → nearest b h i ≡ 0
unfolding nearest
nearest_none b h i k = let e : i ≡ 0 = omega arith in rw e

pub ruleset nearer = (nearest_stop, nearest_on, nearest_none)
