-- What the code counts and writes for position p of a sound image is document 01's path to p: its number of entries,
-- and its bytes with the model's ranks and labels.
-- Assumes nothing.
use Prim.Native.Nat.{ℕ, zero, suc, ◌+◌, ◌-◌, ◌*◌, ◌^◌, ◌≤◌, ◌<◌}
use native.Mathlib.Nat.{zero-add}
use native.Mathlib.Omega.{arith}
use mathlib.Core.Path.{◌≡◌, refl, ap, ap₂, sym, ◌∙◌}
use mathlib.Core.Bool.{true}
use mathlib.Core.List.{List, [], ◌∷◌, ◌++◌, map, append_assoc}
use lib.ListN.{length, take, drop, get_or, length-append, length-map}
use borrow.Author.Tests.{ne_eqb}
use Rattle.octets.specs.Runs.{patch}
use Rattle.octets.proofs.PatchLaws.{patch_next}
use Rattle.sha256.specs.Hash.{sha256}
use Rattle.skiplist.specs.Limits.{most_height}
use Rattle.skiplist.specs.Row.{Item, Column, AtMost, last_of}
use Rattle.skiplist.specs.Tree.{Tree, empty, leaf, node, tree, rank}
use Rattle.skiplist.specs.Sides.{trees, side_of}
use Rattle.skiplist.specs.Entry.{Entry, down, right, pass, Place, map_entry}
use Rattle.skiplist.specs.Recompute.{plug}
use Rattle.skiplist.specs.Path.{beside, stop_side, down_entries, entries_to, right_entries, place}
use Rattle.skiplist.specs.Label.{Side, sides}
use Rattle.skiplist.specs.Blocks.{Block, AllSound, head, block_item, row, root, shown}
use Rattle.skiplist.proofs.GoodTree.{NonEmpty}
use Rattle.skiplist.proofs.MergeLaws.{path_merge}
use Rattle.skiplist.proofs.MapLaws.{merge-map}
use Rattle.skiplist.proofs.SideLaws.{side_stop, downs_side}
use Rattle.skiplist.proofs.SlotLaws.{slots-length, slots-stop, slots-open}
use Rattle.skiplist.proofs.PathLaws.{place-whole}
use Rattle.skiplist.proofs.BlockLaws.{row_cut}
use Rattle.skiplist.proofs.WayLaws.{root-rank, way_found, way-length}
use Rattle.labels.specs.declared.Side as code
use Rattle.labels.specs.CodeSides.{to_side, no_side, leaf_of, node_of, coded, vacant}
use Rattle.labels.proofs.CodeLaws.{code_side}
use Rattle.archive.specs.Reading.{count_of, tag_at, blocks_from, blocks_of, sound}
use Rattle.archive.proofs.SoundLaws.{sound_is}
use Rattle.archive.proofs.RecordLaws.{length-blocks, take-blocks, drop-blocks}
use Rattle.archive.proofs.ImageLaws.{sound_row}
use Rattle.proofbytes.specs.Layout.{header_size, entry_size, proof_size}
use Rattle.proofbytes.specs.Writing.{header_bytes, entries_bytes, label_field, stop_fields, proof_bytes}
use Rattle.store.specs.Answers.{path_at, entries_at, proof_at}
use Rattle.store.specs.Passes.{slots_of, item_at, run_of, count_at, bytes_of, rights_at, tail_at, entries_of}
use Rattle.std.proofs.lemmas.List.{get_or_default}
use Rattle.store.proofs.SlotLaws.{tells}
use Rattle.store.proofs.RunLaws.{few, run_low}

-- ---- the code's sides as the model's
to_sides : (q : List (Entry Tree)) (c : Item) (r : Tree) → rank (plug trees q (leaf c r)) < 2 ^ 64
    → map (map_entry to_side) (map (map_entry (side_of coded)) q) ≡ map (map_entry (side_of (sides sha256))) q
to_sides [] c r h = refl
to_sides (down l s ∷ q) c r h =
    ap₂ (λ (x : Side) (y : List (Entry Side)). down l x ∷ y) (code_side s (omega arith)).side_is
    (to_sides q c r (omega arith))
to_sides (right l s ∷ q) c r h =
    ap₂ (λ (x : Side) (y : List (Entry Side)). right l x ∷ y) (code_side s (omega arith)).side_is
    (to_sides q c r (omega arith))
to_sides (pass d ∷ q) c r h = ap (λ (y : List (Entry Side)). pass d ∷ y) (to_sides q c r (omega arith))

-- the label field of a stop's right side, which has a rank of 0 only where it is empty
field_is : (r : Tree) → (NonEmpty r → 1 ≤ rank r) → rank r < 2 ^ 64 → (side_of coded r).label
    ≡ label_field (side_of (sides sha256) r)
unfolding no_side leaf_of node_of
field_is empty n h = refl
field_is (leaf c r) n h =
    let s = code_side (leaf c r) h in
    let e = s.side_is in
    rw (ne_eqb (side_of (sides sha256) (leaf c r)).rank 0 (λ z. omega
    (arith, n tt, s.rank_is, ap (λ (x : Side). x.rank) e)))
    (ap (λ (x : Side). x.label) e)
field_is (node l a b) n h =
    let s = code_side (node l a b) h in
    let e = s.side_is in
    rw (ne_eqb (side_of (sides sha256) (node l a b)).rank 0 (λ z. omega
    (arith, n tt, s.rank_is, ap (λ (x : Side). x.rank) e)))
    (ap (λ (x : Side). x.label) e)

heavy_stop : (bs : List Block) → NonEmpty (stop_side trees (row bs)) → 1 ≤ rank (stop_side trees (row bs))
heavy_stop [] n = absurd n
heavy_stop (x ∷ bs) n = go x.height n
  where
    go : (h : ℕ) → NonEmpty (beside trees h (leaf (block_item x.tag) (stop_side trees (row bs))))
        → 1 ≤ rank (beside trees h (leaf (block_item x.tag) (stop_side trees (row bs))))
    go zero n = omega arith
    go (suc h) n = absurd n

stop_rank : (q : List (Entry Tree)) (c : Item) (r : Tree) (m : ℕ) → rank (plug trees q (leaf c r)) < m → rank r < m
stop_rank [] c r m h = omega arith
stop_rank (down l s ∷ q) c r m h = stop_rank q c r m (omega arith)
stop_rank (right l s ∷ q) c r m h = stop_rank q c r m (omega arith)
stop_rank (pass d ∷ q) c r m h = stop_rank q c r m (omega arith)

pub last-item : (b : List ℕ) (i k m : ℕ) (c : Item) → c ≡ item_at b i → m ≡ i + k → last_of c (row (blocks_from b i k))
    ≡ item_at b m
unfolding blocks_from
last-item b i zero m c e em = let f : m ≡ i = omega arith in e ∙ rw f
last-item b i (suc k) m c e em = last-item b (suc i) k m (block_item (tag_at b i)) refl (omega arith)

-- ---- the path of a sound image
module _ (b : List ℕ) (good : sound b ≡ true) (p : ℕ) (in_row : p ≤ count_of b) where
  n : ℕ
  n = count_of b

  bs : List Block
  bs = blocks_from b 0 n

  A : List Column
  A = run_of b 0 p

  B : List Column
  B = run_of b p n

  blocks_are : blocks_of b ≡ bs
  unfolding bs n
  blocks_are = refl

  sound_blocks : AllSound bs
  unfolding bs n
  sound_blocks = rw blocks_are at (sound_row b (sound_is b good)).sound

  row_before : row (take p bs) ≡ A
  unfolding A bs n
  row_before = let z : p - 0 ≡ p = omega arith in ap row (take-blocks b 0 p (count_of b) in_row) ∙ rw z

  row_after : row (drop p bs) ≡ B
  unfolding B bs n
  row_after = ap row (drop-blocks b 0 p (count_of b) in_row) ∙ rw (zero-add p)

  low_before : AtMost most_height A
  unfolding A
  low_before = run_low b good 0 p (omega arith) in_row

  low_after : AtMost most_height B
  unfolding B n
  low_after = run_low b good p (count_of b) in_row (omega arith)

  within : p ≤ length bs
  unfolding bs n
  within = rw (length-blocks b 0 (count_of b)) in_row

  found : path_at b p ≡ place head A B
  unfolding path_at
  found = rw blocks_are (way_found p bs sound_blocks within ∙ rw (row_before, row_after))

  -- THE COUNT from heights is the path's
  pub counted : entries_at b p ≡ count_at b (count_of b) p
  unfolding path_at A B n
  counted = rw blocks_are (way-length p bs sound_blocks within ∙ rw (row_before, row_after))

  entries_are : entries_of b (count_of b) p ≡ map (map_entry (side_of coded)) (entries_to head A B)
  unfolding tail_at rights_at A B n
  entries_are =
      rw (slots-open coded vacant tells most_height B low_after, downs_side coded B)
      (merge-map (side_of coded) (right_entries head A) (down_entries trees B)
      ∙ ap (map (map_entry (side_of coded))) (sym (path_merge most_height head A B low_before low_after)))

  -- so many entries are written
  pub entries-count : length (entries_of b (count_of b) p) ≡ entries_at b p
  entries-count =
      ap length entries_are
      ∙ length-map (entries_to head A B) (map_entry (side_of coded))
      ∙ ap (λ (z : Place Tree). length z.entries) (sym found)

  ranked : rank (plug trees (entries_to head A B) (leaf (last_of head A) (stop_side trees B))) < 2 ^ 64
  unfolding bs n
  ranked =
      let all : A ++ B ≡ row bs = rw (← row_before, ← row_after) (row_cut p bs) in
      let e : plug trees (entries_to head A B) (leaf (last_of head A) (stop_side trees B)) ≡ root bs =
      place-whole head A B ∙ ap (tree head) all in
      rw e (omega (arith, root-rank bs, length-blocks b 0 (count_of b), few b good))

  bytes_are : bytes_of (entries_of b (count_of b) p) ≡ entries_bytes
      (map (map_entry (side_of (sides sha256))) (entries_to head A B))
  bytes_are = ap bytes_of entries_are ∙ ap entries_bytes (to_sides (entries_to head A B) (last_of head A)
      (stop_side trees B) ranked)

  -- the path, its sides as the code has them, and its stop
  pub entries_found : (path_at b p).entries ≡ entries_to head (run_of b 0 p) (run_of b p (count_of b))
  unfolding A B n
  entries_found = ap (λ (z : Place Tree). z.entries) found

  pub labels_found : map (map_entry to_side) (map (map_entry (side_of coded)) (path_at b p).entries)
      ≡ map (map_entry (side_of (sides sha256))) (path_at b p).entries
  labels_found = rw found (to_sides (entries_to head A B) (last_of head A) (stop_side trees B) ranked)

  pub stop_found : (t : code.Side) → t ≡ stop_side coded (run_of b p (count_of b))
      → stop_fields (item_at b p).own (shown (item_at b p)) t.rank t.label
      ≡ stop_fields (path_at b p).item.own (shown (path_at b p).item) (side_of (sides sha256) (path_at b p).side).rank
      (label_field (side_of (sides sha256) (path_at b p).side))
  unfolding A B n
  stop_found t e =
      let r = stop_side trees B in
      let e₀ : t ≡ side_of coded r = e ∙ side_stop coded B in
      let fits : rank r < 2 ^ 64 = stop_rank (entries_to head A B) (last_of head A) r (2 ^ 64) ranked in
      let er : (side_of coded r).rank ≡ (side_of (sides sha256) r).rank =
      ap (λ (y : Side). y.rank) (code_side r fits).side_is in
      let el : (side_of coded r).label ≡ label_field (side_of (sides sha256) r) =
      field_is r (rw (← row_after) (heavy_stop (drop p bs))) fits in
      let z : p - 0 ≡ p = omega arith in
      let it : last_of head A ≡ item_at b p = rw z (last-item b 0 p p head refl (omega arith)) in
      rw (e₀, er, el, ← it, found)

  -- THE BYTES: header, entries and stop as the code writes them
  pub proof_is : (k own : ℕ) (tag : List ℕ) (s : List code.Side) (d : code.Side) → k ≡ entries_at b p → own
      ≡ (item_at b p).own
      → tag ≡ shown (item_at b p) → s ≡ slots_of (run_of b p (count_of b))
      → header_bytes k ++ (bytes_of (entries_of b (count_of b) p) ++ stop_fields own tag (get_or s 0 d).rank
      (get_or s 0 d).label) ≡ proof_at b p
  unfolding proof_bytes A B n
  proof_is k own tag s d ek eo et es =
      let l : length s ≡ suc most_height = ap length es ∙ slots-length coded vacant tells most_height B in
      let e₀ : get_or s 0 d ≡ stop_side coded B =
      get_or_default s 0 d no_side (omega (arith, l)) ∙ rw es (slots-stop coded vacant tells most_height B low_after) in
      let kk : length (map (map_entry (side_of (sides sha256))) (entries_to head A B)) ≡ k =
      length-map (entries_to head A B) (map_entry (side_of (sides sha256)))
      ∙ sym (ek ∙ ap (λ (y : Place Tree). length y.entries) found) in
      rw (bytes_are, eo, et, stop_found (get_or s 0 d) e₀, found, kk)

-- ---- header, entries and stop side by side
pub three : (old h t z x y w : List ℕ) (at k : ℕ) → length h ≡ header_size → length t ≡ entry_size * k
    → at + proof_size k ≤ length old → x ≡ patch old at h → y ≡ patch x (at + header_size) t
    → w ≡ patch y (at + header_size + entry_size * k) z → w ≡ patch old at (h ++ (t ++ z))
three old h t z x y w at k lh lt room ex ey ew =
    let q : y ≡ patch old at (h ++ t) = ey ∙ rw ex (patch_next old h t at (at + header_size) (omega (arith, lh))
    (omega arith)) in
    ew
    ∙ rw q (patch_next old (h ++ t) z at (at + header_size + entry_size * k) (simp length-append (omega (arith, lh, lt)))
    (omega arith))
    ∙ ap (patch old at) (append_assoc h t z)
