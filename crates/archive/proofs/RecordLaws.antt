-- The records of an image: read from a buffer they are its own bytes, and a run of blocks is taken apart where its
-- records are.
-- Assumes nothing.
use Prim.Native.Nat.{ℕ, zero, suc, ◌+◌, ◌-◌, ◌*◌, ◌≤◌}
use native.Mathlib.Nat.{add-zero}
use native.Mathlib.Omega.{arith}
use native.Mathlib.Numerals.{add-one}
use mathlib.Core.Path.{◌≡◌, refl, sym, ap, ◌∙◌}
use mathlib.Core.List.{List, [], ◌∷◌, ◌++◌, append_assoc}
use lib.ListN.{length, take, drop, length-append}
use Rattle.octets.specs.Runs.{part}
use Rattle.octets.proofs.NumberLaws.{read_one}
use Rattle.octets.proofs.PartLaws.{part_none, part-cons, part-add}
use Rattle.skiplist.specs.Limits.{digest_bytes}
use Rattle.skiplist.specs.Blocks.{Block, AllSound}
use Rattle.archive.specs.Form.{record_bytes, image_bytes, record_of, records_of}
use Rattle.archive.specs.Reading.{block_at, blocks_from}

pub records-cons : (h : ℕ) (t : List ℕ) (bs : List Block)
    → records_of (record { height = h; tag = t } ∷ bs) ≡ h ∷ (t ++ records_of bs)
unfolding records_of
records-cons h t bs = refl

pub records-append : (xs ys : List Block) → records_of (xs ++ ys) ≡ records_of xs ++ records_of ys
unfolding records_of
records-append [] ys = refl
records-append (x ∷ xs) ys = rw (records-append xs ys) (sym (append_assoc (record_of x) (records_of xs) (records_of ys)))

pub length-records : (bs : List Block) → AllSound bs → length (records_of bs) ≡ record_bytes * length bs
unfolding records_of
length-records [] s = refl
length-records (b ∷ bs) s = rw (length-append (record_of b) (records_of bs))
    (omega (arith, s.1, length-records bs s.2))

-- ---- read from a buffer
pub record_is : (b : List ℕ) (i : ℕ) → image_bytes (suc i) ≤ length b → record_of (block_at b i)
    ≡ part b (image_bytes i) record_bytes
record_is b i h =
    rw (read_one b (image_bytes i), add-one (image_bytes i)) (sym (part-cons b (image_bytes i) digest_bytes (omega arith)))

pub records_are : (b : List ℕ) (i k : ℕ) → image_bytes (i + k) ≤ length b
    → records_of (blocks_from b i k) ≡ part b (image_bytes i) (record_bytes * k)
unfolding records_of blocks_from
records_are b i zero h = sym (part_none b (image_bytes i))
records_are b i (suc k) h =
    let e : record_bytes * suc k ≡ record_bytes + record_bytes * k = omega arith in
    let f : image_bytes i + record_bytes ≡ image_bytes (suc i) = omega arith in
    ap (λ (r : List ℕ). r ++ records_of (blocks_from b (suc i) k)) (record_is b i (omega arith))
    ∙ ap (λ (r : List ℕ). part b (image_bytes i) record_bytes ++ r) (records_are b (suc i) k (omega arith))
    ∙ rw (e, part-add b (image_bytes i) record_bytes (record_bytes * k), f)

pub length-blocks : (b : List ℕ) (i k : ℕ) → length (blocks_from b i k) ≡ k
unfolding blocks_from
length-blocks b i zero = refl
length-blocks b i (suc k) = ap suc (length-blocks b (suc i) k)

pub take-blocks : (b : List ℕ) (i j k : ℕ) → j ≤ k → take j (blocks_from b i k) ≡ blocks_from b i j
unfolding blocks_from
take-blocks b i zero k h = refl
take-blocks b i (suc j) zero h = absurd (omega arith)
take-blocks b i (suc j) (suc k) h = rw (take-blocks b (suc i) j k (omega arith))

pub drop-blocks : (b : List ℕ) (i j k : ℕ) → j ≤ k → drop j (blocks_from b i k) ≡ blocks_from b (i + j) (k - j)
unfolding blocks_from
drop-blocks b i zero k h = let e : k - 0 ≡ k = omega arith in rw (add-zero i, e)
drop-blocks b i (suc j) zero h = absurd (omega arith)
drop-blocks b i (suc j) (suc k) h =
    let e : suc i + j ≡ i + suc j = omega arith in
    let f : suc k - suc j ≡ k - j = omega arith in
    drop-blocks b (suc i) j k (omega arith) ∙ rw (e, f)

-- one block more at the front of a run
pub next_block : (b : List ℕ) (i k : ℕ) → blocks_from b i (suc k) ≡ block_at b i ∷ blocks_from b (suc i) k
unfolding blocks_from
next_block b i k = refl

pub no_blocks : (b : List ℕ) (i : ℕ) → blocks_from b i 0 ≡ []
unfolding blocks_from
no_blocks b i = refl
