-- The shared number of two paths of an image, by heights: their records are the same up to where the paths part, and
-- there a down entry's kind, or the stop, stands against a right entry's.
-- Assumes nothing.
use Prim.Native.Nat.{ℕ, ◌+◌, ◌-◌, ◌≤◌, ◌<◌}
use native.Mathlib.Nat.{zero-add}
use native.Mathlib.Omega.{arith}
use mathlib.Core.Path.{◌≡◌, refl, sym, ap, ◌∙◌}
use mathlib.Core.List.{List, [], ◌∷◌, ◌++◌, map, map-append}
use lib.ListN.{length, take, drop, length-append, length-map}
use lib.Seq.{take-append_seam, drop-append_seam}
use Rattle.sha256.specs.Hash.{sha256}
use Rattle.skiplist.specs.Sides.{side_of}
use Rattle.skiplist.specs.Entry.{Entry, down, right, pass, map_entry}
use Rattle.skiplist.specs.Label.{Side, sides}
use Rattle.skiplist.specs.Sharing.{shared_count, Stays, Crosses, Parted}
use Rattle.skiplist.proofs.SharedLaws.{map-parted, ways_parted_at}
use Rattle.archive.specs.Reading.{count_of, blocks_from, blocks_of}
use Rattle.archive.proofs.RecordLaws.{length-blocks, take-blocks, drop-blocks}
use Rattle.proofbytes.specs.Writing.{field_bytes, entry_bytes}
use Rattle.jointbytes.specs.Spelling.{common}
use Rattle.jointbytes.proofs.CommonLaws.{common_right, common_after}
use Rattle.store.specs.Answers.{path_at, entries_at}
use Rattle.store.specs.Passes.{run_of}
use Rattle.jointstore.specs.Answers.{raw_at}
use Rattle.jointstore.specs.Passes.{shared_at}

-- RECORDS
parting : (p q : List (Entry Side)) → Stays p → Crosses q → common (map entry_bytes p) (map entry_bytes q) ≡ 0
unfolding common field_bytes
parting [] q s x = refl
parting (down l t ∷ p) [] s x = absurd x
parting (down l t ∷ p) (down m u ∷ q) s x = absurd x
parting (down l t ∷ p) (right m u ∷ q) s x = refl
parting (down l t ∷ p) (pass c ∷ q) s x = refl
parting (right l t ∷ p) q s x = absurd s
parting (pass c ∷ p) q s x = absurd s

common_front : (c s x : List (List ℕ)) → common (c ++ s) (c ++ x) ≡ length c + common s x
common_front c s x =
    let t : take (length c) (c ++ s) ++ x ≡ c ++ x = rw take-append_seam in
    let d : drop (length c) (c ++ s) ≡ s = drop-append_seam c s in
    ap (common (c ++ s)) (sym t)
    ∙ common_after (c ++ s) x (length c) (omega (arith, length-append c s))
    ∙ ap (λ y. length c + common y x) d

pub common-parted : {p q : List (Entry Side)} {n : ℕ} → Parted p q n
    → common (map entry_bytes p) (map entry_bytes q) ≡ n
common-parted {p} {q} {n} z =
    rw (
      z.first,
      z.second,
      map-append entry_bytes z.common z.stays,
      map-append entry_bytes z.common z.crosses,
    )
    (common_front (map entry_bytes z.common) (map entry_bytes z.stays) (map entry_bytes z.crosses)
    ∙ omega (
      arith,
      parting z.stays z.crosses z.stay z.cross,
      length-map z.common entry_bytes,
      z.size,
    ))

-- THE PATHS OF AN IMAGE
pub raw_count : (b : List ℕ) (p : ℕ) → length (raw_at b p).entries ≡ entries_at b p
raw_count b p =
    length-map (map (map_entry (side_of (sides sha256))) (path_at b p).entries) entry_bytes
    ∙ length-map (path_at b p).entries (map_entry (side_of (sides sha256)))

pub shared_few : (b : List ℕ) (p q : ℕ) → shared_at b p q ≤ entries_at b q
unfolding shared_at
shared_few b p q = omega (arith, common_right (raw_at b p).entries (raw_at b q).entries, raw_count b q)

module _ (b : List ℕ) (p q : ℕ) (rising : p < q) (in_row : q ≤ count_of b) where
  first : take p (blocks_of b) ≡ blocks_from b 0 (p - 0)
  first = let z : p ≡ p - 0 = omega arith in take-blocks b 0 p (count_of b) (omega arith) ∙ ap (blocks_from b 0) z

  second : take (q - p) (drop p (blocks_of b)) ≡ blocks_from b p (q - p)
  second =
      ap (take (q - p)) (drop-blocks b 0 p (count_of b) (omega arith)
      ∙ ap (λ i. blocks_from b i (count_of b - p)) (zero-add p))
      ∙ take-blocks b p (q - p) (count_of b - p) (omega arith)

  third : drop q (blocks_of b) ≡ blocks_from b q (count_of b - q)
  third = drop-blocks b 0 q (count_of b) in_row ∙ ap (λ i. blocks_from b i (count_of b - q)) (zero-add q)

  pub paths_parted : Parted (path_at b p).entries (path_at b q).entries
      (shared_count (run_of b 0 p) (run_of b p q) (run_of b q (count_of b)))
  unfolding path_at
  paths_parted =
      rw (← first, ← second, ← third)
      (ways_parted_at p q (blocks_of b) rising (rw (length-blocks b 0 (count_of b)) in_row))

  -- THE SHARED NUMBER is the one by heights
  pub shared_is : shared_at b p q ≡ shared_count (run_of b 0 p) (run_of b p q) (run_of b q (count_of b))
  unfolding shared_at
  shared_is = common-parted (map-parted (side_of (sides sha256)) paths_parted)
