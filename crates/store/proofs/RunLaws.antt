-- Columns of a sound image: their heights are low, and one pass over them from the right gives their slots and their
-- tree.
-- Assumes nothing.
use Prim.Native.Nat.{ℕ, zero, suc, ◌+◌, ◌-◌, ◌≤◌, ◌<◌}
use native.Mathlib.Omega.{arith}
use mathlib.Core.Path.{◌≡◌, refl, sym, ap, ◌∙◌}
use mathlib.Core.Bool.{true}
use mathlib.Core.List.{List, ◌∷◌}
use lib.ListN.{length, get_or}
use Rattle.skiplist.specs.Limits.{most_blocks, most_height}
use Rattle.skiplist.specs.Row.{AtMost}
use Rattle.skiplist.specs.Sides.{side_of}
use Rattle.skiplist.specs.Slots.{slots}
use Rattle.skiplist.specs.Blocks.{head, block_item, shown, tag_after}
use Rattle.skiplist.specs.Blocks as model
use Rattle.skiplist.proofs.SlotLaws.{slots-length, slots-root}
use Rattle.labels.specs.declared.Side.{Side}
use Rattle.labels.specs.CodeSides.{no_side, leaf_of, coded, vacant}
use Rattle.archive.specs.Reading.{count_of, height_at, tag_at, block_at, blocks_from, blocks_of, sound}
use Rattle.archive.proofs.SoundLaws.{sound_is, low_run}
use Rattle.archive.proofs.RecordLaws.{next_block, no_blocks}
use Rattle.store.specs.Passes.{no_slots_of, sealed_of, with_column_of, slots_of, item_at, run_of, tree_at}
use Rattle.std.proofs.lemmas.List.{get_or_default}
use Rattle.store.proofs.SlotLaws.{tells}

module _ (b : List ℕ) (good : sound b ≡ true) where
  pub few : count_of b ≤ most_blocks
  few = (sound_is b good).frame.few

  pub run_low : (i m : ℕ) → i ≤ m → m ≤ count_of b → AtMost most_height (run_of b i m)
  run_low i m h k = low_run b (count_of b) i (m - i) (sound_is b good).heights (omega arith)

  -- the slots of a run, sealed over the leaf of the column before it
  pub side_is : (i m : ℕ) (s : List Side) (t r d : Side) → i ≤ m → m ≤ count_of b → s ≡ slots_of (run_of b i m)
      → t ≡ leaf_of (item_at b i) (get_or s 0 d) → r ≡ sealed_of s most_height t → r ≡ side_of coded (tree_at b i m)
  side_is i m s t r d h k es et er =
      let l : length s ≡ suc most_height = ap length es ∙ slots-length coded vacant tells most_height (run_of b i m) in
      er
      ∙ ap (sealed_of s most_height) (et ∙ ap (leaf_of (item_at b i)) (get_or_default s 0 d no_side (omega (arith, l))))
      ∙ rw es (slots-root coded vacant tells most_height (item_at b i) (run_of b i m) (run_low i m h k))

-- ---- items
-- the tag field of column p is the tag at position p of the row
tag_from : (b : List ℕ) (i j k : ℕ) → i < k → tag_after i (blocks_from b j k) ≡ tag_at b (j + i)
tag_from b i j zero h = absurd (omega (arith, h))
tag_from b zero j (suc k) h = let z : j + 0 ≡ j = omega arith in rw (next_block b j k, z)
tag_from b (suc i) j (suc k) h =
    let z : j + suc i ≡ suc j + i = omega arith in
    rw (next_block b j k, z) (tag_from b i (suc j) k (omega (arith, h)))

pub tag_is : (b : List ℕ) (p : ℕ) → p ≤ count_of b → shown (item_at b p) ≡ model.tag_at p (blocks_of b)
tag_is b zero h = refl
tag_is b (suc i) h = let z : 0 + i ≡ i = omega arith in sym (rw z at (tag_from b i 0 (count_of b) (omega (arith, h))))

-- ---- runs
-- one column more at the front of a run
pub run_front : (b : List ℕ) (j m : ℕ) → 0 < j → j ≤ m
    → blocks_from b (j - 1) (m - (j - 1)) ≡ block_at b (j - 1) ∷ blocks_from b j (m - j)
run_front b j m h k =
    let q : m - (j - 1) ≡ suc (m - j) = omega arith in
    let e : suc (j - 1) ≡ j = omega arith in
    ap (blocks_from b (j - 1)) q ∙ next_block b (j - 1) (m - j) ∙ rw e

pub run_none : (b : List ℕ) (m n : ℕ) → n ≤ m → blocks_from b m (n - m) ≡ blocks_from b m 0
run_none b m n h = let z : n - m ≡ 0 = omega arith in rw z

pub columns_start : (b : List ℕ) (m : ℕ) (s : List Side) → s ≡ no_slots_of → s ≡ slots_of (run_of b m m)
unfolding slots
columns_start b m s e = e ∙ rw (run_none b m m (omega arith), no_blocks b m)

pub columns_next : (b : List ℕ) (m j : ℕ) (s x : List Side) (h : ℕ) (t : List ℕ) → 0 < j → j ≤ m → s
    ≡ slots_of (run_of b j m)
    → h ≡ height_at b (j - 1) → t ≡ tag_at b (j - 1) → x ≡ with_column_of s h (block_item t) → x
    ≡ slots_of (run_of b (j - 1) m)
unfolding slots
columns_next b m j s x h t a k es eh et ex = ex ∙ rw (es, eh, et, run_front b j m a k)

pub ruleset labelling = (columns_start, columns_next)
