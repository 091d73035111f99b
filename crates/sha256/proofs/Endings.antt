-- Padding: the number of zeros is FIPS's smallest solution; a padded message has whole blocks; and a copy and two stores
-- into 128 zeros make its end, what follows the whole blocks of the message's last part.
-- Assumes nothing.
use Rattle.std.proofs.Common.{◌≡◌, ℕ, ◌+◌, ◌-◌, ◌*◌, ◌/◌, ◌%◌, ◌^◌, ◌<◌, ◌≤◌, List, [], ◌∷◌, ◌++◌, length, take, drop, set, replicate, ap, ◌∙◌, append_assoc, zero-add, arith, length-append, length-drop, length-take-le, take_all, take_at}
use lib.ListN.{length-replicate, replicate-append-replicate}
use lib.Seq.{take-append-add, drop-append-le}
use Rattle.octets.specs.Numbers.{be}
use Rattle.octets.specs.Runs.{part, patch}
use Rattle.octets.proofs.NumberLaws.{length-be}
use Rattle.octets.proofs.PartLaws.{part_middle}
use Rattle.octets.proofs.PatchLaws.{length-patch, set_next}
use Rattle.sha256.specs.Padding.{zeros, padding, padded, padded_after, blocks, Ends}
use Rattle.sha256.specs.Answer.{longest}

-- 5.1.1: k = 7 + 8 * zeros n solves l + 1 + k = 448 mod 512 for l = 8 * n, and no smaller k does
pub zeros_solve : (n : ℕ) → (n * 8 + 1 + (7 + 8 * zeros n)) % 512 ≡ 448
zeros_solve n = omega arith

pub zeros_least : (n k : ℕ) → (n * 8 + 1 + k) % 512 ≡ 448 → 7 + 8 * zeros n ≤ k
zeros_least n k e = omega arith

pub padded-length : (m : List ℕ) → length (padded m) ≡ blocks (length m) * 64
unfolding padded padding
padded-length m = simp (length-append, length-replicate) (omega arith)

-- whole blocks in front do not count
zeros_after : (n m : ℕ) → n % 64 ≡ 0 → zeros (n + m) ≡ zeros m
zeros_after n m h = let e : (n + m) % 64 ≡ m % 64 = omega arith in rw e

pub padded_after-length : (n : ℕ) (m : List ℕ) → n % 64 ≡ 0
    → length (padded_after n m) ≡ length m / 64 * 64 + blocks (length m % 64) * 64
unfolding padded_after padding
padded_after-length n m h = simp (length-append, length-replicate, zeros_after n (length m) h) (omega arith)

-- a number below 2 ^ 32 in eight bytes
short : (l : ℕ) → l < 2 ^ 32 → be 8 l ≡ replicate 4 0 ++ be 4 l
short l h =
    let e : l / 256 / 256 / 256 / 256 ≡ 0 = omega arith in
    rw e

-- so many of the zeros
some_zeros : (n i j : ℕ) → i + j ≤ n → ◌≡◌ {A = List ℕ} (take j (drop i (replicate n 0))) (replicate j 0)
unfolding part
some_zeros n i j h =
    let k = n - (i + j) in
    let e : n ≡ i + (j + k) = omega arith in
    let s : ◌≡◌ {A = List ℕ} (replicate n 0) (replicate i 0 ++ (replicate j 0 ++ replicate k 0)) =
    ap (λ (l : ℕ). replicate {A = ℕ} l 0) e
    ∙ rw (replicate-append-replicate {A = ℕ} j k 0, replicate-append-replicate {A = ℕ} i (j + k) 0) in
    rw s (part_middle (replicate i 0) (replicate j 0) (replicate k 0) i j (length-replicate i 0) (length-replicate j 0))

-- a patch ends what is before it
pub front_patch : (xs ys : List ℕ) (a b : ℕ) → a + length ys ≡ b → a ≤ length xs
    → take b (patch xs a ys) ≡ take a xs ++ ys
unfolding patch
front_patch xs ys a b e h =
    let l : length (take a xs ++ ys) ≡ b = simp (length-append, length-take-le a xs h) e in
    rw (← append_assoc (take a xs) ys (drop (a + length ys) xs))
    (take_at (take a xs ++ ys) (drop (a + length ys) xs) b l)

-- x at the front of 128 zeros, 128 behind it, and l at the end of the first e bytes
ending : (z x l : List ℕ) (r e j : ℕ) → z ≡ replicate 128 0 → length x ≡ r → length l ≡ 4 → r + 1 + (j + 4) ≡ e → e ≤ 128
    → take e (patch (set (patch z 0 x) r 128) (e - 4) l) ≡ x ++ (128 ∷ (replicate j 0 ++ l))
unfolding patch
ending z x l r e j ez hx hl he h =
    let lz : length z ≡ 128 = ap length ez in
    let y = x ++ (128 ∷ []) in
    let ly : length y ≡ r + 1 = length-append x (128 ∷ []) ∙ omega arith in
    let s : set (patch z 0 x) r 128 ≡ patch z 0 y = set_next z x 0 r 128 (zero-add (length x) ∙ hx) (omega arith) in
    let lp : length (patch z 0 y) ≡ 128 = length-patch z y 0 (omega arith) ∙ lz in
    let q : e - 4 ≡ length y + j = omega arith in
    let n : take j (drop (length y) z) ≡ replicate j 0 =
    ap (λ (k : List ℕ). take j (drop (length y) k)) ez ∙ some_zeros 128 (length y) j (omega arith) in
    let t : take (e - 4) (patch z 0 y) ≡ y ++ replicate j 0 =
    rw (q, zero-add (length y), take-append-add y (drop (length y) z) j, n) in
    rw s (front_patch (patch z 0 y) l (e - 4) e (omega arith) (omega arith) ∙ rw t (simp append_assoc))

-- ---- what the code's copy and stores make of 128 zeros z

-- the message's bytes after its whole blocks, as the code takes them
abbrev pub rest : List ℕ → List ℕ
rest m = take (length m - length m / 64 * 64) (drop (length m / 64 * 64) m)

rest_all : (m : List ℕ) → rest m ≡ drop (length m / 64 * 64) m
rest_all m = take_all (length m - length m / 64 * 64) (drop (length m / 64 * 64) m) (simp length-drop (omega arith))

pub rest-length : (m : List ℕ) → length (rest m) ≡ length m % 64
rest-length m = ap length (rest_all m) ∙ length-drop (length m / 64 * 64) m ∙ omega arith

pub copied_length : (m z c : List ℕ) → z ≡ replicate 128 0 → c ≡ patch z 0 (rest m) → length c ≡ 128
copied_length m z c ez ec =
    let lz : length z ≡ 128 = ap length ez in
    ap length ec ∙ length-patch z (rest m) 0 (omega (arith, rest-length m)) ∙ lz

pub ending_made : (before : ℕ) (m z c t : List ℕ) (k : ℕ) → z ≡ replicate 128 0 → before % 64 ≡ 0
    → before + length m ≤ longest → k ≡ blocks (length m % 64) → c ≡ patch z 0 (rest m)
    → t ≡ patch (set c (length m % 64) 128) (k * 64 - 4) (be 4 ((before + length m) * 8)) → Ends before m t (k * 64)
unfolding padded_after padding
ending_made before m z c t k ez hb h ek ec et =
    let n = length m in
    let a = before + n in
    let e : n % 64 + 1 + (zeros a + 4 + 4) ≡ k * 64 = rw (zeros_after before n hb) (omega arith) in
    let made = ending z (rest m) (be 4 (a * 8)) (n % 64) (k * 64) (zeros a + 4) ez (rest-length m) (length-be 4 (a * 8)) e in
    record {
      size = ap (λ (j : ℕ). j * 64) ek;
      bytes =
          ap (take (k * 64)) (et ∙ rw ec) ∙ made (omega arith)
          ∙ rw (
            rest_all m,
            drop-append-le (n / 64 * 64) m (padding a) (omega arith),
            short (a * 8) (omega arith),
            ← (replicate-append-replicate {A = ℕ} (zeros a) 4 0),
          )
          (simp append_assoc);
    }
