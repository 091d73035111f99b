-- What a later proof has of its own: the path to column q from the column on that the columns between the two positions
-- are anchored at, in the columns up to the first taller one. Its bytes are those of the whole path from the first entry
-- on that is not shared.
-- Assumes nothing.
use Prim.Native.Nat.{ℕ, zero, suc, ◌+◌, ◌-◌, ◌*◌, ◌≤◌, ◌<◌}
use native.Mathlib.Omega.{arith}
use mathlib.Core.Path.{◌≡◌, refl, sym, ap, ap₂, ◌∙◌}
use mathlib.Core.Bool.{true}
use mathlib.Core.List.{List, [], ◌∷◌, ◌++◌, map, map-append}
use lib.ListN.{length, drop, get_or, length-append, length-map, take-append-drop}
use lib.Seq.{drop-append_seam}
use Rattle.octets.specs.Runs.{patch}
use Rattle.octets.proofs.PatchLaws.{patch_next}
use Rattle.skiplist.specs.Limits.{most_height}
use Rattle.skiplist.specs.Row.{Column, AtMost, Below, last_of}
use Rattle.skiplist.specs.Tree.{Tree}
use Rattle.skiplist.specs.Sides.{trees, side_of}
use Rattle.skiplist.specs.Entry.{Entry, map_entry}
use Rattle.skiplist.specs.Path.{stop_side, down_entries, entries_to, right_entries}
use Rattle.skiplist.specs.Length.{tallest}
use Rattle.skiplist.specs.Blocks.{head, column, row, shown}
use Rattle.skiplist.proofs.Runs.{below-at_most, at_most-append, at_most-right}
use Rattle.skiplist.proofs.MapLaws.{merge-map}
use Rattle.skiplist.proofs.MergeLaws.{path_merge}
use Rattle.skiplist.proofs.SideLaws.{downs_side}
use Rattle.skiplist.proofs.SlotLaws.{slots-length, slots-stop, slots-open}
use Rattle.skiplist.proofs.BlockLaws.{row-append}
use Rattle.skiplist.proofs.SharedLaws.{at_most-tallest}
use Rattle.skiplist.proofs.SplitLaws.{Taller, last_height, stop_split, path_split, shared_split}
use Rattle.labels.specs.declared.Side.{Side}
use Rattle.labels.specs.CodeSides.{to_side, no_side, coded, vacant}
use Rattle.archive.specs.Reading.{count_of, height_at, block_at, blocks_from, sound}
use Rattle.archive.proofs.RecordLaws.{take-blocks, drop-blocks, next_block, no_blocks}
use Rattle.proofbytes.specs.Layout.{entry_size, stop_size}
use Rattle.proofbytes.specs.Writing.{entry_bytes, stop_fields}
use Rattle.jointbytes.specs.Spelling.{joined}
use Rattle.store.specs.Answers.{path_at, entries_at}
use Rattle.store.specs.Passes.{slot_of, slots_of, item_at, run_of, nearest, Anchors, bytes_of, rights_at, tail_at}
use Rattle.std.proofs.lemmas.List.{get_or_default}
use Rattle.store.proofs.SlotLaws.{tells}
use Rattle.store.proofs.RunLaws.{run_low, run_none}
use Rattle.store.proofs.TailLaws.{nearest_is}
use Rattle.store.proofs.ProofLaws.{last-item, entries_found, labels_found, stop_found}
use Rattle.jointstore.specs.Answers.{raw_at}
use Rattle.jointstore.specs.Passes.{shared_at, Reaches, part_of, part_at, rest_at}
use Rattle.jointstore.proofs.SharingLaws.{shared_is}
use Rattle.jointstore.proofs.PieceLaws.{entries-joined}

-- RUNS
run-append : (b : List ℕ) (i j m : ℕ) → i ≤ j → j ≤ m → run_of b i m ≡ run_of b i j ++ run_of b j m
run-append b i j m h k =
    let e : i + (j - i) ≡ j = omega arith in
    let f : (m - i) - (j - i) ≡ m - j = omega arith in
    let t : blocks_from b i (m - i) ≡ blocks_from b i (j - i) ++ blocks_from b j (m - j) =
    sym (take-append-drop (j - i) (blocks_from b i (m - i)))
    ∙ ap₂ ◌++◌ (take-blocks b i (j - i) (m - i) (omega arith))
    (drop-blocks b i (j - i) (m - i) (omega arith) ∙ ap₂ (blocks_from b) e f) in
    ap row t ∙ sym (row-append (blocks_from b i (j - i)) (blocks_from b j (m - j)))

run_first : (b : List ℕ) (j m : ℕ) → j < m → run_of b j m ≡ column (block_at b j) ∷ run_of b (suc j) m
run_first b j m h =
    let q : m - j ≡ suc (m - suc j) = omega arith in
    ap row (ap (blocks_from b j) q ∙ next_block b j (m - suc j))

run_empty : (b : List ℕ) (j m : ℕ) → m ≤ j → run_of b j m ≡ []
run_empty b j m h = rw (run_none b j m h, no_blocks b j)

pub at_most_none : (b : List ℕ) (m j : ℕ) → AtMost m (run_of b j j)
at_most_none b m j = rw (run_empty b j j (omega arith)) tt

pub at_most_next : (b : List ℕ) (m i j h : ℕ) → i ≤ j → AtMost m (run_of b i j) → h ≡ height_at b j → h ≤ m
    → AtMost m (run_of b i (j + 1))
at_most_next b m i j h k a eh low =
    let e : suc j ≡ j + 1 = omega arith in
    let one : AtMost m (run_of b j (j + 1)) =
    rw (run_first b j (j + 1) (omega arith), e, run_empty b (j + 1) (j + 1) (omega arith)) (omega arith, tt) in
    rw (run-append b i j (j + 1) k (omega arith)) (at_most-append m (run_of b i j) (run_of b j (j + 1)) a one)

-- what a bound on a run says of a column in it
at_most_at : (b : List ℕ) (m i k j : ℕ) → AtMost m (run_of b i k) → i ≤ j → j < k → height_at b j ≤ m
at_most_at b m i k j a h g =
    let t : AtMost m (run_of b j k) = at_most-right m (run_of b i j) (run_of b j k)
    (rw (run-append b i j k h (omega arith)) at a) in
    (rw (run_first b j k g) at t).0

taller-run : (b : List ℕ) (m e n : ℕ) → (e < n → m < height_at b e) → e ≤ n → Taller m (run_of b e n)
taller-run b m e n k h = go (n - e) refl
  where
    go : (d : ℕ) → n - e ≡ d → Taller m (run_of b e n)
    go zero z = rw (run_empty b e n (omega arith)) tt
    go (suc d) z = rw (run_first b e n (omega arith)) (k (omega arith))

last_high : (b : List ℕ) (m i k h : ℕ) → (k ≡ 0 → m ≤ h) → (0 < k → m ≤ height_at b ((i + k) - 1))
    → m ≤ last_height h (row (blocks_from b i k))
unfolding blocks_from
last_high b m i zero h z s = z refl
last_high b m i (suc k) h z s =
    let e : (suc i + k) - 1 ≡ (i + suc k) - 1 = omega arith in
    last_high b m (suc i) k (height_at b i)
    (λ q. let f : (i + suc k) - 1 ≡ i = omega arith in rw f at (s (omega arith)))
    (λ q. rw e (s (omega arith)))

drop-map : {A B : Type 0} (f : A → B) (c : ℕ) (xs ys : List A) → c ≡ length xs → drop c (map f (xs ++ ys)) ≡ map f ys
drop-map f c xs ys e =
    let n : c ≡ length (map f xs) = e ∙ sym (length-map xs f) in
    rw (map-append f xs ys, n) (drop-append_seam (map f xs) (map f ys))

-- THE PATH CUT at column a, with c entries before
pub record Cut (b : List ℕ) (q c a e : ℕ) : Type 0 where
  pub before : a ≤ q
  pub after : q ≤ e
  pub in_row : e ≤ count_of b
  pub anchors : Anchors b a q
  pub count : c + length (part_of b a q e) ≡ entries_at b q
  pub bytes : part_at b a q e ≡ rest_at b q c

module _ (b : List ℕ) (good : sound b ≡ true) (q : ℕ) (in_row : q ≤ count_of b) (m a e : ℕ) (before : a ≤ q)
    (low : AtMost m (run_of b a q)) (reach : Reaches b m q e) (tall : 0 < a → m ≤ height_at b (a - 1)) where
  n : ℕ
  n = count_of b

  A : List Column
  A = run_of b 0 a

  R : List Column
  R = run_of b a q

  X : List Column
  X = run_of b q e

  Y : List Column
  Y = run_of b e n

  firsts : List (Entry Tree)
  firsts = entries_to head A Y

  rest : List (Entry Tree)
  rest = entries_to (item_at b a) R X

  in_n : e ≤ count_of b
  in_n = reach.in_row

  up_to : run_of b 0 q ≡ A ++ R
  unfolding A R
  up_to = run-append b 0 a q (omega arith) before

  behind : run_of b q (count_of b) ≡ X ++ Y
  unfolding X Y n
  behind = run-append b q e (count_of b) reach.after in_n

  high : Taller m Y
  unfolding Y n
  high = taller-run b m e (count_of b) reach.next in_n

  last : m ≤ last_height m A
  unfolding A
  last =
      let z : (0 + (a - 0)) - 1 ≡ a - 1 = omega arith in
      last_high b m 0 (a - 0) m (λ k. omega arith) (λ k. rw z (tall (omega arith)))

  anchored : last_of head A ≡ item_at b a
  unfolding A
  anchored = last-item b 0 (a - 0) a head refl (omega arith)

  cut_path : (path_at b q).entries ≡ firsts ++ rest
  unfolding firsts rest X R
  cut_path =
      entries_found b good q in_row
      ∙ rw (up_to, behind) (path_split m X Y reach.low high head A R low last)
      ∙ ap (λ c. entries_to head A Y ++ entries_to c R X) anchored

  part_is : part_of b a q e ≡ map (map_entry (side_of coded)) rest
  unfolding tail_at rights_at rest X R
  part_is =
      let low_x : AtMost most_height (run_of b q e) = run_low b good q e reach.after in_n in
      let low_r : AtMost most_height (run_of b a q) = run_low b good a q before in_row in
      rw (slots-open coded vacant tells most_height (run_of b q e) low_x, downs_side coded (run_of b q e))
      (merge-map (side_of coded) (right_entries (item_at b a) (run_of b a q)) (down_entries trees (run_of b q e))
      ∙ ap (map (map_entry (side_of coded)))
      (sym (path_merge most_height (item_at b a) (run_of b a q) (run_of b q e) low_r low_x)))

  part_count : length firsts + length (part_of b a q e) ≡ entries_at b q
  part_count =
      omega (
        arith,
        ap length part_is,
        length-map rest (map_entry (side_of coded)),
        ap length cut_path,
        length-append firsts rest,
      )

  -- the code's entries of the whole path
  code_path : map (map_entry to_side) (map (map_entry (side_of coded)) (path_at b q).entries)
      ≡ map (map_entry to_side) (map (map_entry (side_of coded)) firsts)
      ++ map (map_entry to_side) (map (map_entry (side_of coded)) rest)
  code_path =
      ap (λ p. map (map_entry to_side) (map (map_entry (side_of coded)) p)) cut_path
      ∙ ap (map (map_entry to_side)) (map-append (map_entry (side_of coded)) firsts rest)
      ∙ map-append (map_entry to_side) (map (map_entry (side_of coded)) firsts) (map (map_entry (side_of coded)) rest)

  entries_left : (c : ℕ) → c ≡ length firsts → joined (drop c (raw_at b q).entries) ≡ bytes_of (part_of b a q e)
  entries_left c ec =
      let fs = map (map_entry to_side) (map (map_entry (side_of coded)) firsts) in
      let rs = map (map_entry to_side) (map (map_entry (side_of coded)) rest) in
      let lf : c ≡ length fs =
      ec
      ∙ sym (length-map (map (map_entry (side_of coded)) firsts) (map_entry to_side)
      ∙ length-map firsts (map_entry (side_of coded))) in
      ap (λ p. joined (drop c (map entry_bytes p))) (sym (labels_found b good q in_row) ∙ code_path)
      ∙ ap joined (drop-map entry_bytes c fs rs lf)
      ∙ entries-joined rs
      ∙ ap bytes_of (sym part_is)

  stop_same : slot_of (slots_of (run_of b q e)) 0 ≡ stop_side coded (run_of b q (count_of b))
  unfolding X
  stop_same =
      slots-stop coded vacant tells most_height (run_of b q e) (run_low b good q e reach.after in_n)
      ∙ sym (ap (stop_side coded) behind ∙ stop_split coded m Y high (run_of b q e))

  cut : (c : ℕ) → c ≡ length firsts → Cut b q c a e
  unfolding part_at rest_at
  cut c ec = record {
    before = before;
    after = reach.after;
    in_row = reach.in_row;
    anchors = λ j k h g. omega (arith, tall k, at_most_at b m a q j low h g);
    count = omega (arith, ec, part_count);
    bytes = ap₂ ◌++◌ (sym (entries_left c ec))
        (stop_found b good q in_row (slot_of (slots_of (run_of b q e)) 0) stop_same);
  }

-- the first proof is the whole path
pub first_cut : (b : List ℕ) → sound b ≡ true → (q : ℕ) → q ≤ count_of b → Cut b q 0 0 (count_of b)
unfolding firsts A Y n
first_cut b good q in_row =
    let r : Reaches b most_height q (count_of b) = record {
      after = in_row;
      in_row = omega arith;
      low = run_low b good q (count_of b) in_row (omega arith);
      next = λ k. absurd (omega arith);
    } in
    let low = run_low b good 0 q (omega arith) in_row in
    cut b good q in_row most_height 0 (count_of b) (omega arith) low r (λ k. absurd (omega arith)) 0
    (sym (rw (run_empty b 0 0 (omega arith), run_empty b (count_of b) (count_of b) (omega arith))))

-- a later one is cut where the columns between the two positions are anchored
pub later_cut : (b : List ℕ) → sound b ≡ true → (p q m a e c : ℕ) → p < q → q ≤ count_of b
    → m ≡ tallest (run_of b p q) → a ≡ nearest b m p → Reaches b m q e → c ≡ shared_at b p q → Cut b q c a e
unfolding firsts A Y n
later_cut b good p q m a e c rising in_row em ea r ec =
    let B = run_of b p q in
    let X = run_of b q e in
    let Y = run_of b e (count_of b) in
    let near = nearest_is b m p in
    let before : a ≤ p = rw ea near.before in
    let below : Below m (run_of b a p) = rw ea near.lower in
    let tall : 0 < a → m ≤ height_at b (a - 1) = rw ea near.high in
    let low_b : AtMost m B = rw em (at_most-tallest B) in
    let between : run_of b a q ≡ run_of b a p ++ B = run-append b a p q before (omega arith) in
    let low : AtMost m (run_of b a q) =
    rw between (at_most-append m (run_of b a p) B (below-at_most m m (run_of b a p) (omega arith) below) low_b) in
    let in_n : e ≤ count_of b = r.in_row in
    let hi : Taller m Y = taller-run b m e (count_of b) r.next in_n in
    let la : m ≤ last_height m (run_of b 0 a) = last b good q in_row m a e (omega arith) low r tall in
    let sh : shared_at b p q ≡ length (entries_to head (run_of b 0 a) Y) =
    shared_is b p q rising in_row
    ∙ rw (
      run-append b 0 a p (omega arith) before,
      run-append b q e (count_of b) r.after in_n,
    )
    (shared_split head (run_of b 0 a) (run_of b a p) B X Y (rw em at below) (rw em at r.low)
    (rw em at hi) (rw em at la)) in
    cut b good q in_row m a e (omega arith) low r tall c (ec ∙ sh)

-- ---- entries and stop side by side
pub part_put : (b old y z : List ℕ) (at a q e k own : ℕ) (tag : List ℕ) (s : List Side) (d : Side)
    → own ≡ (item_at b q).own → tag ≡ shown (item_at b q) → s ≡ slots_of (run_of b q e)
    → length (bytes_of (tail_at b s q a most_height)) ≡ entry_size * k → at + entry_size * k + stop_size ≤ length old
    → y ≡ patch old at (bytes_of (tail_at b s q a most_height))
    → z ≡ patch y (at + entry_size * k) (stop_fields own tag (get_or s 0 d).rank (get_or s 0 d).label)
    → z ≡ patch old at (part_at b a q e)
unfolding part_at
part_put b old y z at a q e k own tag s d eo et es size fits ey ez =
    let t = bytes_of (tail_at b s q a most_height) in
    let w = stop_fields own tag (get_or s 0 d).rank (get_or s 0 d).label in
    let l : length s ≡ suc most_height =
    ap length es ∙ slots-length coded vacant tells most_height (run_of b q e) in
    let g : get_or s 0 d ≡ slot_of s 0 = get_or_default s 0 d no_side (omega (arith, l)) in
    ez
    ∙ ap (λ v. patch v (at + entry_size * k) w) ey
    ∙ patch_next old t w at (at + entry_size * k) (omega (arith, size)) (omega arith)
    ∙ ap (patch old at) (rw (g, es, eo, et))
