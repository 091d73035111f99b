-- Replace, Insert and Delete of records in place leave the image of the edited row: the moves and stores of the code,
-- one after the other, are one patch from the front of the buffer.
-- Assumes nothing.
use Prim.Native.Nat.{ℕ, suc, ◌+◌, ◌-◌, ◌*◌, ◌%◌, ◌≤◌, ◌<◌}
use native.Mathlib.Nat.{zero-add}
use native.Mathlib.Omega.{arith}
use mathlib.Core.Path.{◌≡◌, refl, sym, ap, ◌∙◌}
use mathlib.Core.List.{List, [], ◌∷◌, ◌++◌, append_assoc, append-nil}
use lib.ListN.{length, take, drop, replicate, length-append, length-replicate}
use lib.Seq.{drop-append-add}
use Rattle.octets.specs.Numbers.{be, Bytes}
use Rattle.octets.specs.Runs.{patch, part}
use Rattle.octets.proofs.PatchLaws.{patch_before, patch_next}
use Rattle.octets.proofs.PartLaws.{part_none, part-cons, length-part}
use Rattle.octets.proofs.KeepLaws.{keep_before, keep_all, keep_behind}
use Rattle.octets.proofs.NumberLaws.{read_one}
use Rattle.skiplist.specs.Limits.{digest_bytes}
use Rattle.skiplist.specs.Blocks.{Block, WithinLimits}
use Rattle.skiplist.specs.Commands.{edited, read, replace}
use Rattle.archive.specs.Form.{length_place, length_bytes, count_bytes, header_bytes, record_bytes, rest_bytes}
use Rattle.archive.specs.Form.{image_bytes, header_of, records_of, image_of}
use Rattle.archive.specs.Reading.{count_of, height_at, block_at, blocks_from, blocks_of}
use Rattle.archive.specs.Writing.{rewritten, after_replace, after_insert, after_delete, after_edit, spare_after}
use Rattle.archive.proofs.SoundLaws.{Sound}
use Rattle.archive.proofs.RecordLaws.{records-cons, records-append, records_are, length-blocks, take-blocks}
use Rattle.archive.proofs.RecordLaws.{drop-blocks, next_block}
use Rattle.archive.proofs.ImageLaws.{first_byte, own_header, length-image, image-count}

module _ (b : List ℕ) (s : Sound b) where
  -- a new count in the header, before what is written from the first record on
  with_header : (Y : List ℕ) (m : ℕ)
      → patch (patch b header_bytes Y) length_place (be length_bytes (rest_bytes m) ++ be count_bytes m)
      ≡ patch b 0 (header_of m ++ Y)
  with_header Y m =
      patch_before b (be length_bytes (rest_bytes m) ++ be count_bytes m) Y length_place header_bytes refl s.frame.long
      ∙ keep_before b (be length_bytes (rest_bytes m) ++ (be count_bytes m ++ Y)) 0 1 length_place refl
      (omega (arith, s.frame.long))
      ∙ rw (first_byte b s)

  -- the header that is there
  same_header : (Y : List ℕ) → Bytes b → patch b header_bytes Y ≡ patch b 0 (header_of (count_of b) ++ Y)
  same_header Y y = keep_before b Y 0 header_bytes header_bytes refl s.frame.long ∙ rw (own_header b s y)

  -- header, records and the bytes given up
  as_rewritten : (bs : List Block) (X : List ℕ) (m z : ℕ) → records_of bs ≡ X → length bs ≡ m
      → image_bytes (count_of b) - image_bytes m ≡ z → patch b 0 (header_of m ++ (X ++ replicate z 0)) ≡ rewritten b bs
  unfolding rewritten image_of
  as_rewritten bs X m z e_x em ez =
      rw (← e_x, ← ez, ← em) (ap (patch b 0) (sym (append_assoc (header_of (length bs)) (records_of bs)
      (replicate (image_bytes (count_of b) - image_bytes (length bs)) 0))))

  -- ---- the records of the edited rows, as parts of the buffer
  module _ (p : ℕ) (last : p ≤ count_of b) where
    front : records_of (take p (blocks_of b)) ≡ part b header_bytes (record_bytes * p)
    front = ap records_of (take-blocks b 0 p (count_of b) last) ∙ records_are b 0 p (omega (arith, s.frame.room))

    back : records_of (drop p (blocks_of b)) ≡ part b (image_bytes p) (record_bytes * (count_of b - p))
    back =
        ap records_of (drop-blocks b 0 p (count_of b) last)
        ∙ rw (zero-add p) (records_are b p (count_of b - p) (omega (arith, s.frame.room)))

    length_front : length (take p (blocks_of b)) ≡ p
    length_front = ap length (take-blocks b 0 p (count_of b) last) ∙ length-blocks b 0 p

    length_back : length (drop p (blocks_of b)) ≡ count_of b - p
    length_back = ap length (drop-blocks b 0 p (count_of b) last) ∙ length-blocks b (0 + p) (count_of b - p)

  -- INSERT: the later records moved, tag, height and count stored
  pub insert_is : (p h : ℕ) (t b₁ b₂ b₃ b₄ : List ℕ) → p ≤ count_of b → image_bytes (count_of b + 1) ≤ length b
      → h < 256 → length t ≡ digest_bytes
      → b₁ ≡ patch b (image_bytes p + record_bytes) (part b (image_bytes p) (image_bytes (count_of b) - image_bytes p))
      → b₂ ≡ patch b₁ (image_bytes p + 1) t → b₃ ≡ patch b₂ (image_bytes p) (be 1 h)
      → b₄ ≡ patch b₃ length_place (be length_bytes (rest_bytes (count_of b + 1)) ++ be count_bytes (count_of b + 1))
      → b₄ ≡ after_insert b p h t
  insert_is p h t b₁ b₂ b₃ b₄ last room byte et e₁ e₂ e₃ e₄ =
      let n = count_of b in
      let at = image_bytes p in
      let q = part b at (record_bytes * (n - p)) in
      let d : image_bytes n - image_bytes p ≡ record_bytes * (n - p) = omega arith in
      let f₂ : b₂ ≡ patch b (at + 1) (t ++ q) =
      e₂ ∙ rw (e₁, d) (patch_before b t q (at + 1) (at + record_bytes) (omega (arith, et)) (omega arith)) in
      let eh : h % 256 ≡ h = omega arith in
      let f₃ : b₃ ≡ patch b at (h ∷ (t ++ q)) =
      e₃ ∙ rw (f₂, eh) (patch_before b (h ∷ []) (t ++ q) at (at + 1) refl (omega arith)) in
      let f : b₃ ≡ patch b header_bytes (part b header_bytes (record_bytes * p) ++ (h ∷ (t ++ q))) =
      f₃ ∙ keep_before b (h ∷ (t ++ q)) header_bytes (record_bytes * p) at refl (omega arith) in
      let g : records_of (take p (blocks_of b) ++ record { height = h; tag = t } ∷ drop p (blocks_of b))
      ≡ part b header_bytes (record_bytes * p) ++ (h ∷ (t ++ q)) =
      records-append (take p (blocks_of b)) (record { height = h; tag = t } ∷ drop p (blocks_of b))
      ∙ rw (front p last, records-cons h t (drop p (blocks_of b)), back p last) in
      let l : length (take p (blocks_of b) ++ record { height = h; tag = t } ∷ drop p (blocks_of b)) ≡ n + 1 =
      length-append (take p (blocks_of b)) (record { height = h; tag = t } ∷ drop p (blocks_of b))
      ∙ omega (arith, length_front p last, length_back p last) in
      e₄
      ∙ ap (λ (x : List ℕ). patch x length_place (be length_bytes (rest_bytes (n + 1)) ++ be count_bytes (n + 1))) f
      ∙ with_header (part b header_bytes (record_bytes * p) ++ (h ∷ (t ++ q))) (n + 1)
      ∙ ap (λ (x : List ℕ). patch b 0 (header_of (n + 1) ++ x))
      (sym (append-nil (part b header_bytes (record_bytes * p) ++ (h ∷ (t ++ q)))))
      ∙ as_rewritten _ (part b header_bytes (record_bytes * p) ++ (h ∷ (t ++ q))) (n + 1) 0 g l (omega arith)

  -- DELETE: the later records moved back, the last record's bytes cleared, the count stored
  pub delete_is : (p : ℕ) (b₁ b₂ b₃ : List ℕ) → 1 ≤ p → p ≤ count_of b
      → b₁ ≡ patch b (image_bytes p - record_bytes) (part b (image_bytes p) (image_bytes (count_of b) - image_bytes p))
      → b₂ ≡ patch b₁ (image_bytes (count_of b) - record_bytes) (replicate record_bytes 0)
      → b₃ ≡ patch b₂ length_place (be length_bytes (rest_bytes (count_of b - 1)) ++ be count_bytes (count_of b - 1))
      → b₃ ≡ after_delete b p
  delete_is p b₁ b₂ b₃ some last e₁ e₂ e₃ =
      let n = count_of b in
      let i = p - 1 in
      let k = record_bytes * (n - p) in
      let q = part b (image_bytes p) k in
      let lq : length q ≡ k = length-part b (image_bytes p) k (omega (arith, s.frame.room)) in
      let d : image_bytes n - image_bytes p ≡ k = omega arith in
      let di : image_bytes p - record_bytes ≡ image_bytes i = omega arith in
      let f₂ : b₂ ≡ patch b (image_bytes i) (q ++ replicate record_bytes 0) =
      e₂ ∙ rw (e₁, d, di) (patch_next b q (replicate record_bytes 0) (image_bytes i) (image_bytes n - record_bytes)
      (omega arith) (omega (arith, s.frame.room))) in
      let f : b₂ ≡ patch b header_bytes (part b header_bytes (record_bytes * i) ++ (q ++ replicate record_bytes 0)) =
      f₂ ∙ keep_before b (q ++ replicate record_bytes 0) header_bytes (record_bytes * i) (image_bytes i) refl
      (omega (arith, s.frame.room)) in
      let g : records_of (take i (blocks_of b) ++ drop p (blocks_of b)) ≡ part b header_bytes (record_bytes * i) ++ q =
      records-append (take i (blocks_of b)) (drop p (blocks_of b)) ∙ rw (front i (omega arith), back p last) in
      let l : length (take i (blocks_of b) ++ drop p (blocks_of b)) ≡ n - 1 =
      length-append (take i (blocks_of b)) (drop p (blocks_of b))
      ∙ omega (arith, length_front i (omega arith), length_back p last) in
      e₃
      ∙ ap (λ (x : List ℕ). patch x length_place (be length_bytes (rest_bytes (n - 1)) ++ be count_bytes (n - 1))) f
      ∙ with_header (part b header_bytes (record_bytes * i) ++ (q ++ replicate record_bytes 0)) (n - 1)
      ∙ ap (λ (x : List ℕ). patch b 0 (header_of (n - 1) ++ x))
      (sym (append_assoc (part b header_bytes (record_bytes * i)) q (replicate record_bytes 0)))
      ∙ as_rewritten _ (part b header_bytes (record_bytes * i) ++ q) (n - 1) record_bytes g l (omega arith)

  module _ (y : Bytes b) where
    -- a buffer whose records are rewritten and its header is not
    same_count : (bs : List Block) → length bs ≡ count_of b → patch b header_bytes (records_of bs) ≡ rewritten b bs
    same_count bs l =
        same_header (records_of bs) y
        ∙ ap (λ (x : List ℕ). patch b 0 (header_of (count_of b) ++ x)) (sym (append-nil (records_of bs)))
        ∙ as_rewritten bs (records_of bs) (count_of b) 0 refl l (omega arith)

    -- READ: the row's own image is there already
    pub read_is : (p : ℕ) → b ≡ after_edit b (read p)
    read_is p =
        sym (keep_all b header_bytes (record_bytes * count_of b) s.frame.room)
        ∙ rw (← (records_are b 0 (count_of b) (omega (arith, s.frame.room))))
        (same_count (blocks_of b) (length-blocks b 0 (count_of b)))

    -- REPLACE: the tag stored
    pub replace_is : (p : ℕ) (t b₁ : List ℕ) → 1 ≤ p → p ≤ count_of b → length t ≡ digest_bytes
        → b₁ ≡ patch b (image_bytes (p - 1) + 1) t → b₁ ≡ after_replace b p t
    replace_is p t b₁ some last et e₁ =
        let n = count_of b in
        let i = p - 1 in
        let at = image_bytes i in
        let q = part b (image_bytes p) (record_bytes * (n - p)) in
        let room = s.frame.room in
        let h = height_at b i in
        let hp : part b at 1 ≡ h ∷ [] = part-cons b at 0 (omega arith) ∙ rw (part_none b (suc at), ← (read_one b at)) in
        let e : b₁ ≡ patch b header_bytes (part b header_bytes (record_bytes * i) ++ (h ∷ (t ++ q))) =
        e₁
        ∙ keep_behind b t (at + 1) (record_bytes * (n - p)) (image_bytes p) (omega (arith, et)) (omega arith)
        ∙ keep_before b (t ++ q) at 1 (at + 1) refl (omega arith)
        ∙ rw hp (keep_before b (h ∷ (t ++ q)) header_bytes (record_bytes * i) at refl (omega arith)) in
        let split : drop i (blocks_of b) ≡ block_at b i ∷ drop p (blocks_of b) =
        drop-blocks b 0 i n (omega arith)
        ∙ rw (zero-add i)
        (let en : n - i ≡ suc (n - p) = omega arith in
        let ei : suc i ≡ p = omega arith in
        let dp : drop p (blocks_of b) ≡ blocks_from b p (n - p) = drop-blocks b 0 p n last ∙ rw (zero-add p) in
        ap (blocks_from b i) en ∙ next_block b i (n - p) ∙ ap (λ (x : List Block). block_at b i ∷ x) (rw ei (sym dp))) in
        let row = take i (blocks_of b) ++ record { height = h; tag = t } ∷ drop p (blocks_of b) in
        let er : edited (replace p t) (blocks_of b) ≡ row = rw split in
        let g : records_of row ≡ part b header_bytes (record_bytes * i) ++ (h ∷ (t ++ q)) =
        records-append (take i (blocks_of b)) (record { height = h; tag = t } ∷ drop p (blocks_of b))
        ∙ rw (front i (omega arith), records-cons h t (drop p (blocks_of b)), back p last) in
        let l : length row ≡ n =
        length-append (take i (blocks_of b)) (record { height = h; tag = t } ∷ drop p (blocks_of b))
        ∙ omega (arith, length_front i (omega arith), length_back p last) in
        e ∙ rw (← g) (same_count row l) ∙ ap (rewritten b) (sym er)

-- ---- the edited image, with the spare bytes after it
-- THE BUFFER AFTER AN EDIT IS THE EDITED ROW'S IMAGE, and its spare bytes are as document 01 says
pub edited_image : (bs cs : List Block) (s : List ℕ) → WithinLimits bs → WithinLimits cs
    → rewritten (image_of bs ++ s) cs ≡ image_of cs ++ spare_after (length bs) (length cs) s
unfolding rewritten patch
edited_image bs cs s w v =
    let n = length bs in
    let m = length cs in
    let z : List ℕ = replicate (image_bytes n - image_bytes m) 0 in
    let l : 0 + length (image_of cs ++ z) ≡ length (image_of bs) + (image_bytes m - image_bytes n) =
    rw (
      length-append (image_of cs) z,
      length-replicate {A = ℕ} (image_bytes n - image_bytes m) 0,
      length-image cs v,
      length-image bs w,
    ) (omega arith) in
    rw (image-count bs w s, l, drop-append-add (image_of bs) s (image_bytes m - image_bytes n))
    (append_assoc (image_of cs) z (drop (image_bytes m - image_bytes n) s))

-- Read and Replace leave the spare bytes, Insert takes 33 of them, Delete puts 33 zeros before them
pub spare_same : (n : ℕ) (s : List ℕ) → spare_after n n s ≡ s
spare_same n s = let z : image_bytes n - image_bytes n ≡ 0 = omega arith in rw z

pub spare_insert : (n : ℕ) (s : List ℕ) → spare_after n (n + 1) s ≡ drop record_bytes s
spare_insert n s =
    let z : image_bytes n - image_bytes (n + 1) ≡ 0 = omega arith in
    let d : image_bytes (n + 1) - image_bytes n ≡ record_bytes = omega arith in
    rw (z, d)

pub spare_delete : (n : ℕ) (s : List ℕ) → 1 ≤ n → spare_after n (n - 1) s ≡ replicate record_bytes 0 ++ s
spare_delete n s h =
    let z : image_bytes n - image_bytes (n - 1) ≡ record_bytes = omega arith in
    let d : image_bytes (n - 1) - image_bytes n ≡ 0 = omega arith in
    rw (z, d)
