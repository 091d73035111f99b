-- The two passes over the heights of a sound image: one turn of each, and what they leave.
-- Assumes nothing.
use Prim.Native.Nat.{ℕ, zero, suc, ◌+◌, ◌-◌, ◌≤◌, ◌<◌}
use native.Mathlib.Omega.{arith}
use native.Mathlib.Numerals.{add-one}
use native.Mathlib.Nat.{zero-add, add-zero}
use mathlib.Core.Path.{◌≡◌, refl, sym, ap, ◌∙◌}
use mathlib.Core.List.{List, [], ◌∷◌, ◌++◌, append-nil, append_assoc}
use lib.ListN.{length, get_or, set, replicate, length-append, length-map}
use lib.Seq.{get_or_at}
use Rattle.octets.specs.Runs.{patch}
use Rattle.octets.proofs.PatchLaws.{set_before}
use Rattle.skiplist.specs.Length.{entry_count}
use Rattle.skiplist.specs.Blocks.{Block, column, row}
use Rattle.skiplist.proofs.BlockLaws.{row-append}
use Rattle.archive.specs.Reading.{count_of, height_at, block_at, blocks_from}
use Rattle.archive.proofs.RecordLaws.{next_block, no_blocks, length-blocks}
use Rattle.shapes.specs.Counters.{rights_from, downs_above, Counts, Raised, downs_of, entries_up_to, columns_from}
use Rattle.shapes.proofs.PassLaws.{downs-raised, rights-raised, downs_few, rights_few, both_counters}
use Rattle.shapes.proofs.PassLaws.{length-downs, downs-cons, set_written}

pub columns_none : (b : List ℕ) → columns_from b (count_of b) ≡ []
columns_none b = let e : count_of b - count_of b ≡ 0 = omega arith in rw (e, no_blocks b (count_of b))

pub columns-cons : (b : List ℕ) (i : ℕ) → i < count_of b → columns_from b i ≡ column (block_at b i) ∷ columns_from b (suc i)
columns-cons b i h = let e : count_of b - i ≡ suc (count_of b - suc i) = omega arith in rw
    (e, next_block b i (count_of b - suc i))

pub length-columns : (b : List ℕ) (i : ℕ) → length (columns_from b i) ≡ count_of b - i
length-columns b i = length-map (blocks_from b i (count_of b - i)) column ∙ length-blocks b i (count_of b - i)

pub none_written : downs_of [] ≡ []
unfolding downs_of
none_written = refl

pub length_front : (b : List ℕ) (i : ℕ) → length (row (blocks_from b 0 i)) ≡ i
length_front b i = length-map (blocks_from b 0 i) column ∙ length-blocks b 0 i

-- counters of zeros, where no column is passed
zeros : (n h : ℕ) → ◌≡◌ {A = ℕ} (get_or (replicate n 0) h 0) 0
zeros zero h = refl
zeros (suc n) zero = refl
zeros (suc n) (suc h) = zeros n h

pub no_downs : (n : ℕ) (b : List ℕ) → Counts (downs_above (columns_from b (count_of b))) (replicate n 0)
no_downs n b h = rw (columns_none b) (zeros n h)

-- from the last block to the first
pub down_turn : (b out out₀ m : List ℕ) (i : ℕ) → 0 < i → i ≤ count_of b → count_of b ≤ length out₀
    → out ≡ patch out₀ i (downs_of (columns_from b i)) → Counts (downs_above (columns_from b i)) m
    → set out (i - 1) (get_or m 0 0) ≡ patch out₀ (i - 1) (downs_of (columns_from b (i - 1)))
down_turn b out out₀ m i p h l e c =
    let ei : i ≡ suc (i - 1) = omega arith in
    let ex : out ≡ patch out₀ (suc (i - 1)) (downs_of (columns_from b i)) = e ∙ ap
    (λ (k : ℕ). patch out₀ k (downs_of (columns_from b i))) ei in
    let ec : columns_from b (i - 1) ≡ column (block_at b (i - 1)) ∷ columns_from b i =
    columns-cons b (i - 1) (omega arith) ∙ ap (λ (k : ℕ). column (block_at b (i - 1)) ∷ columns_from b k) (sym ei) in
    rw (ex, c 0, ec, downs-cons (column (block_at b (i - 1))) (columns_from b i))
    (set_before out₀ (downs_of (columns_from b i)) (i - 1) (downs_above (columns_from b i) 0) (omega arith))

pub down_counters : (b m r : List ℕ) (i h : ℕ) → 0 < i → i ≤ count_of b → h ≡ height_at b (i - 1)
    → Counts (downs_above (columns_from b i)) m → Raised m h h r → Counts (downs_above (columns_from b (i - 1))) r
down_counters b m r i h p q e c s =
    let ei : i ≡ suc (i - 1) = omega arith in
    let ec : columns_from b (i - 1) ≡ column (block_at b (i - 1)) ∷ columns_from b i =
    columns-cons b (i - 1) (omega arith) ∙ ap (λ (k : ℕ). column (block_at b (i - 1)) ∷ columns_from b k) (sym ei) in
    rw ec (downs-raised m r (column (block_at b (i - 1))) (columns_from b i) c (rw e at s))

-- from the first block to the last
blocks-snoc : (b : List ℕ) (i k : ℕ) → blocks_from b i (suc k) ≡ blocks_from b i k ++ (block_at b (i + k) ∷ [])
unfolding blocks_from
blocks-snoc b i zero = rw (add-zero i)
blocks-snoc b i (suc k) =
    let e : suc i + k ≡ i + suc k = omega arith in
    ap (λ (xs : List Block). block_at b i ∷ xs) (blocks-snoc b (suc i) k ∙ rw e)

front_more : (b : List ℕ) (i : ℕ) → row (blocks_from b 0 (suc i)) ≡ row (blocks_from b 0 i) ++ (column (block_at b i) ∷ [])
front_more b i = rw (blocks-snoc b 0 i, zero-add i, row-append (blocks_from b 0 i) (block_at b i ∷ []))

pub length_upto : (b : List ℕ) (i : ℕ) → length (entries_up_to b i) ≡ i
unfolding entries_up_to
length_upto b zero = refl
length_upto b (suc i) =
    length-append (entries_up_to b i) (entry_count (row (blocks_from b 0 (suc i))) (columns_from b (suc i)) ∷ []) ∙ omega
    (arith, length_upto b i)

pub no_rights : (n : ℕ) (b : List ℕ) → Counts (rights_from (row (blocks_from b 0 0))) (replicate n 0)
no_rights n b h = rw (no_blocks b 0) (zeros n h)

pub right_counters : (b m r : List ℕ) (i h : ℕ) → h ≡ height_at b i → Counts (rights_from (row (blocks_from b 0 i))) m
    → Raised m h (h + 1) r → Counts (rights_from (row (blocks_from b 0 (suc i)))) r
right_counters b m r i h e c s =
    rw (front_more b i) (rights-raised m r (row (blocks_from b 0 i)) (column (block_at b i)) c (rw e at s))

-- before the first block, after the last, and what stands at block i
pub right_start : (b out : List ℕ) → out ≡ patch out 0 (downs_of (columns_from b 0))
    → out ≡ patch out 0 (entries_up_to b 0 ++ downs_of (columns_from b 0))
unfolding entries_up_to
right_start b out e = e

pub right_end : (b : List ℕ) (i : ℕ) → i ≡ count_of b
    → entries_up_to b i ++ downs_of (columns_from b i) ≡ entries_up_to b (count_of b)
right_end b i e = rw (e, columns_none b, none_written) (append-nil (entries_up_to b (count_of b)))

module _ (b out out₀ : List ℕ) (i : ℕ) (h : i < count_of b) (l : count_of b ≤ length out₀)
    (e : out ≡ patch out₀ 0 (entries_up_to b i ++ downs_of (columns_from b i))) where
  split : downs_of (columns_from b i) ≡ downs_above (columns_from b (suc i)) 0 ∷ downs_of (columns_from b (suc i))
  split = rw (columns-cons b i h) (downs-cons (column (block_at b i)) (columns_from b (suc i)))

  pub right_at : get_or out i 0 ≡ downs_above (columns_from b (suc i)) 0
  unfolding patch
  right_at =
      rw (e, split, append_assoc)
      (get_or_at (entries_up_to b i) (downs_above (columns_from b (suc i)) 0) _ 0 i (length_upto b i))

  pub right_turn : (w : ℕ) → w ≡ entry_count (row (blocks_from b 0 (suc i))) (columns_from b (suc i))
      → set out i w ≡ patch out₀ 0 (entries_up_to b (i + 1) ++ downs_of (columns_from b (i + 1)))
  unfolding entries_up_to
  right_turn w ew =
      rw (e, split, add-one, ← ew)
      (set_written out₀ (entries_up_to b i) (downs_above (columns_from b (suc i)) 0) w (downs_of (columns_from b (suc i)))
      i (length_upto b i)
      (simp (length-append, length_upto b i, length-downs (columns_from b (suc i)), length-columns b (suc i)) (omega arith)))

  -- the number that a turn writes, and that it fits
  pub right_sum : (r : List ℕ) → Counts (rights_from (row (blocks_from b 0 (suc i)))) r
      → get_or out i 0 + get_or r 0 0 ≡ entry_count (row (blocks_from b 0 (suc i))) (columns_from b (suc i))
  right_sum r c = rw (right_at, c 0) (both_counters (row (blocks_from b 0 (suc i))) (columns_from b (suc i)))

  pub right_few : (r : List ℕ) → Counts (rights_from (row (blocks_from b 0 (suc i)))) r
      → get_or out i 0 + get_or r 0 0 ≤ count_of b
  right_few r c =
      rw (right_at, c 0)
      (omega (
        arith,
        downs_few 0 (columns_from b (suc i)),
        length-columns b (suc i),
        rights_few 0
            (row (blocks_from b 0 (suc i))),
        length_front b (suc i),
      ))
