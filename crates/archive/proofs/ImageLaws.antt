-- Theorems: a sound buffer is the image of its row with spare bytes after it (`sound-image`), and that row is within
-- the limits (`sound_row`); the image of a row within the limits, with any bytes after it, is sound and is read back
-- (`image-sound`, `image_read`). So every accepted image is the image of exactly one row, and every row within the
-- limits has one (`image_only`).
-- Assumes nothing.
use Prim.Native.Nat.{ℕ, zero, suc, ◌+◌, ◌*◌, ◌≤◌, ◌<◌}
use native.Mathlib.Nat.{zero-add, add-zero}
use native.Mathlib.Omega.{arith}
use mathlib.Core.Path.{◌≡◌, refl, sym, ap, ◌∙◌}
use mathlib.Core.Bool.{true}
use mathlib.Core.List.{List, [], ◌∷◌, ◌++◌, append_assoc}
use lib.ListN.{length, take, drop, get_or, length-append, take-append-drop}
use lib.Seq.{get_or_at}
use borrow.Author.Tests.{le-leb}
use Rattle.octets.specs.Numbers.{be, number_at, Bytes}
use Rattle.octets.specs.Runs.{part}
use Rattle.octets.proofs.NumberLaws.{read_one, read_middle, write_back}
use Rattle.octets.proofs.PartLaws.{part_none, part-cons, part-add, part_middle, length-part}
use Rattle.skiplist.specs.Limits.{most_height, digest_bytes}
use Rattle.skiplist.specs.Blocks.{Block, AllSound, WithinLimits}
use Rattle.archive.specs.Form.{image_version, length_place, length_bytes, count_place, count_bytes, header_bytes}
use Rattle.archive.specs.Form.{record_bytes, rest_bytes, image_bytes, header_of, record_of, records_of, image_of}
use Rattle.archive.specs.Reading.{count_of, height_at, tag_at, blocks_from, blocks_of, low, sound}
use Rattle.archive.proofs.SoundLaws.{Sound, low_at, is_sound}
use Rattle.archive.proofs.RecordLaws.{records_are, length-records, length-blocks}

-- ---- from a buffer to its row
module _ (b : List ℕ) (s : Sound b) where
  pub first_byte : part b 0 1 ≡ image_version ∷ []
  first_byte =
      part-cons b 0 0 (omega (arith, s.frame.long)) ∙ rw (part_none b 1, ← (read_one b 0), s.frame.version)

  pub own_header : Bytes b → part b 0 header_bytes ≡ header_of (count_of b)
  own_header y =
      let l = s.frame.long in
      let r : part b length_place length_bytes ≡ be length_bytes (rest_bytes (count_of b)) =
      sym (write_back length_bytes b length_place y (omega arith)) ∙ ap (be length_bytes) s.frame.rest in
      let n : part b count_place count_bytes ≡ be count_bytes (count_of b) = sym
      (write_back count_bytes b count_place y (omega arith)) in
      part-add b 0 1 6 ∙ rw (first_byte, part-add b length_place length_bytes count_bytes, r, n)

  -- EVERY SOUND BUFFER IS THE IMAGE OF ITS ROW, with spare bytes after it
  pub sound-image : Bytes b → b ≡ image_of (blocks_of b) ++ drop (image_bytes (count_of b)) b
  unfolding image_of part
  sound-image y =
      let e : take (image_bytes (count_of b)) b ≡ header_of (count_of b) ++ records_of (blocks_of b) =
      part-add b 0 header_bytes (record_bytes * count_of b)
      ∙ rw (own_header y, records_are b 0 (count_of b) (omega (arith, s.frame.room))) in
      sym (take-append-drop (image_bytes (count_of b)) b) ∙ rw (e, length-blocks b 0 (count_of b))

  within : (i k : ℕ) → i + k ≤ count_of b → AllSound (blocks_from b i k)
  unfolding blocks_from
  within i zero h = tt
  within i (suc k) h = (
    low_at b (count_of b) i s.heights (omega arith),
    length-part b (image_bytes i + 1) digest_bytes (omega (arith, s.frame.room)),
    within (suc i) k (omega arith),
  )

  -- and that row is within the limits
  pub sound_row : WithinLimits (blocks_of b)
  sound_row = record {
    sound = within 0 (count_of b) (omega arith);
    count = rw (length-blocks b 0 (count_of b))
        s.frame.few;
  }

-- ---- from a row to its image, with the spare bytes s after it
-- the records of a run, read from where they begin
read_records : (bs : List Block) (p s b : List ℕ) (i : ℕ) → b ≡ p ++ (records_of bs ++ s) → length p ≡ image_bytes i
    → AllSound bs
    → blocks_from b i (length bs) ≡ bs
unfolding records_of blocks_from
read_records [] p s b i e l w = refl
read_records (x ∷ bs) p s b i e l w =
    let h : height_at b i ≡ x.height =
    read_one b (image_bytes i)
    ∙ ap (λ (y : List ℕ). get_or y (image_bytes i) 0) e
    ∙ get_or_at p x.height (x.tag ++ records_of bs ++ s) 0 (image_bytes i) l in
    let f : b ≡ (p ++ (x.height ∷ [])) ++ (x.tag ++ (records_of bs ++ s)) = e ∙ simp append_assoc in
    let t : tag_at b i ≡ x.tag =
    ap (λ (y : List ℕ). part y (image_bytes i + 1) digest_bytes) f
    ∙ part_middle (p ++ (x.height ∷ [])) x.tag (records_of bs ++ s) (image_bytes i + 1) digest_bytes
    (length-append p (x.height ∷ []) ∙ omega arith) w.1 in
    let g : b ≡ (p ++ record_of x) ++ (records_of bs ++ s) = e ∙ simp append_assoc in
    let k : length (p ++ record_of x) ≡ image_bytes (suc i) = length-append p (record_of x) ∙ omega (arith, w.1) in
    rw (h, t, read_records bs (p ++ record_of x) s b (suc i) g k w.2)

all_low : (b : List ℕ) (k : ℕ) → ((j : ℕ) → j < k → height_at b j ≤ most_height) → low b k ≡ true
unfolding low
all_low b zero h = refl
all_low b (suc k) h = rw (le-leb (height_at b k) most_height (h k (omega arith)), all_low b k (λ j l. h j (omega arith)))

sound_heights : (b : List ℕ) (i k j : ℕ) → AllSound (blocks_from b i k) → j < k → height_at b (i + j) ≤ most_height
unfolding blocks_from
sound_heights b i zero j w h = absurd (omega arith)
sound_heights b i (suc k) zero w h = rw (add-zero i) w.0
sound_heights b i (suc k) (suc j) w h =
    let e : suc i + j ≡ i + suc j = omega arith in rw e at (sound_heights b (suc i) k j w.2 (omega arith))

module _ (bs : List Block) (w : WithinLimits bs) where
  pub length-image : length (image_of bs) ≡ image_bytes (length bs)
  unfolding image_of
  length-image = omega (arith, length-records bs w.sound)

  module _ (s : List ℕ) where
    pub image-count : count_of (image_of bs ++ s) ≡ length bs
    unfolding image_of
    image-count =
        read_middle count_bytes (length bs) (image_version ∷ be length_bytes (rest_bytes (length bs))) (records_of bs ++ s)
        count_place refl
        (omega (arith, w.count))

    -- THE IMAGE OF A ROW WITHIN THE LIMITS IS READ BACK
    pub image_read : blocks_of (image_of bs ++ s) ≡ bs
    unfolding image_of
    image_read =
        rw image-count (read_records bs (header_of (length bs)) s (image_of bs ++ s) 0 refl refl w.sound)

    -- and is sound
    pub image-sound : sound (image_of bs ++ s) ≡ true
    unfolding image_of
    image-sound =
        let b = image_of bs ++ s in
        let l : length b ≡ image_bytes (length bs) + length s = length-append (image_of bs) s ∙ rw length-image in
        let n = image-count in
        let r : number_at length_bytes b length_place ≡ rest_bytes (length bs) =
        read_middle length_bytes (rest_bytes (length bs)) (image_version ∷ [])
        (be count_bytes (length bs) ++ (records_of bs ++ s)) length_place refl
        (omega (arith, w.count)) in
        let a : AllSound (blocks_of b) = rw image_read w.sound in
        is_sound b (record {
          frame = record {
            long = omega arith;
            version = read_one b 0;
            rest = r ∙ rw n;
            few = rw n w.count;
            room = rw n (omega arith);
          };
          heights = all_low b (count_of b) (λ j k. rw (zero-add j) at (sound_heights b 0 (count_of b) j a k));
        })

-- EXACTLY ONE ROW: a row within the limits whose image begins the buffer is the row that is read
pub image_only : (bs : List Block) (s b : List ℕ) → WithinLimits bs → b ≡ image_of bs ++ s → bs ≡ blocks_of b
image_only bs s b w e = sym (image_read bs w s) ∙ ap blocks_of (sym e)
