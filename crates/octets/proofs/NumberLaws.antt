-- Laws of numbers in bytes: `be` and `number_at` undo one another, and `be` is one-to-one below 256 ^ k.
-- Assumes nothing.
use Prim.Native.Nat.{ℕ, zero, suc, ◌+◌, ◌-◌, ◌*◌, ◌/◌, ◌%◌, ◌^◌, ◌≤◌, ◌<◌}
use mathlib.Core.Path.{◌≡◌, refl, sym, ap, ◌∙◌}
use mathlib.Core.List.{List, [], ◌∷◌, ◌++◌}
use native.Mathlib.Nat.{zero-add, add-zero, suc-add}
use native.Mathlib.Omega.{arith}
use lib.ListN.{length, set, get_or, length-append, get_or-append}
use lib.Seq.{get_or-append-add, get_or-append_seam}
use Rattle.octets.specs.Numbers.{be, number_at, Bytes}
use Rattle.octets.specs.Runs.{patch, part}
use Rattle.octets.proofs.PatchLaws.{of_set, patch_before}
use Rattle.octets.proofs.PartLaws.{part_none, part-snoc}

pub length-be : (k n : ℕ) → length (be k n) ≡ k
length-be zero n = refl
length-be (suc k) n = length-append (be k (n / 256)) (n % 256 ∷ []) ∙ omega (arith, length-be k (n / 256))

-- a number is settled by the k bytes it is read from
pub number_at-same : (k : ℕ) (s t : List ℕ) (a b : ℕ) → ((i : ℕ) → i < k → get_or s (a + i) 0 ≡ get_or t (b + i) 0)
    → number_at k s a ≡ number_at k t b
unfolding number_at
number_at-same zero s t a b h = refl
number_at-same (suc k) s t a b h =
    rw (number_at-same k s t a b (λ i l. h i (omega arith)), h k (omega arith))

pub number_at_bound : (k : ℕ) (s : List ℕ) (a : ℕ) → Bytes s → number_at k s a < 256 ^ k
unfolding number_at
number_at_bound zero s a h = omega arith
number_at_bound (suc k) s a h = omega (arith, number_at_bound k s a h, h (a + k))

-- a number of fewer than eight bytes has room for one more
powers : (k d : ℕ) → 256 ^ k ≤ 256 ^ (d + k)
powers k zero = rw zero-add (omega arith)
powers k (suc d) = rw suc-add (omega (arith, powers k d))

pub room : (k n : ℕ) → k < 8 → n < 256 ^ k → n < 256 ^ 7
room k n h l =
    let e : 7 - k + k ≡ 7 = omega arith in
    let g : 256 ^ k ≤ 256 ^ 7 = rw e at (powers k (7 - k)) in
    omega arith

-- one byte, spelled out
pub read_one : (s : List ℕ) (a : ℕ) → number_at 1 s a ≡ get_or s a 0
unfolding number_at
read_one s a = rw (add-zero a) (omega arith)

-- the last of the bytes written, and then the number without it in those before
pub put_last : (d : List ℕ) (a k n : ℕ) → a + suc k ≤ length d
    → patch (set d (a + k) (n % 256)) a (be k (n / 256)) ≡ patch d a (be (suc k) n)
put_last d a k n h =
    rw (of_set d (a + k) (n % 256) (omega arith))
    (patch_before d (be k (n / 256)) (n % 256 ∷ []) a (a + k) (ap (λ (m : ℕ). a + m) (length-be k (n / 256))) (omega arith))

-- the same, wherever the last byte is said to stand
pub put_place : (d : List ℕ) (a k p n : ℕ) → p ≡ a + k → a + suc k ≤ length d
    → patch (set d p (n % 256)) a (be k (n / 256)) ≡ patch d a (be (suc k) n)
put_place d a k p n e h = rw e (put_last d a k n h)

-- what is written is read back
pub read_be : (k n : ℕ) → n < 256 ^ k → number_at k (be k n) 0 ≡ n
unfolding number_at
read_be zero n h = omega arith
read_be (suc k) n h =
    let l : length (be k (n / 256)) ≡ k = length-be k (n / 256) in
    let f : number_at k (be k (n / 256) ++ (n % 256 ∷ [])) 0 ≡ number_at k (be k (n / 256)) 0 =
    number_at-same k (be k (n / 256) ++ (n % 256 ∷ [])) (be k (n / 256)) 0 0
    (λ i j. get_or-append (be k (n / 256)) (n % 256 ∷ []) 0 (0 + i) (omega arith)) in
    let g : get_or (be k (n / 256) ++ (n % 256 ∷ [])) (0 + k) 0 ≡ n % 256 =
    ap (λ (i : ℕ). get_or (be k (n / 256) ++ (n % 256 ∷ [])) i 0) (zero-add k ∙ sym l)
    ∙ get_or-append_seam (be k (n / 256)) (n % 256) [] 0 in
    omega (arith, f, g, read_be k (n / 256) (omega arith))

-- the same inside a list
pub read_middle : (k n : ℕ) (p q : List ℕ) (a : ℕ) → length p ≡ a → n < 256 ^ k → number_at k (p ++ (be k n ++ q)) a ≡ n
read_middle k n p q a e h =
    number_at-same k (p ++ (be k n ++ q)) (be k n) a 0
    (λ i j. ap (λ (m : ℕ). get_or (p ++ (be k n ++ q)) (m + i) 0) (sym e)
    ∙ get_or-append-add p (be k n ++ q) i 0
    ∙ get_or-append (be k n) q 0 i (rw (length-be k n) j)
    ∙ ap (λ (m : ℕ). get_or (be k n) m 0) (sym (zero-add i)))
    ∙ read_be k n h

-- what is read is written back
pub write_back : (k : ℕ) (s : List ℕ) (a : ℕ) → Bytes s → a + k ≤ length s → be k (number_at k s a) ≡ part s a k
unfolding number_at
write_back zero s a h l = sym (part_none s a)
write_back (suc k) s a h l =
    let q : (number_at k s a * 256 + get_or s (a + k) 0) / 256 ≡ number_at k s a = omega (arith, h (a + k)) in
    let r : (number_at k s a * 256 + get_or s (a + k) 0) % 256 ≡ get_or s (a + k) 0 = omega (arith, h (a + k)) in
    rw (q, r, write_back k s a h (omega arith)) (sym (part-snoc s a k (omega arith)))

pub be_one_to_one : (k a b : ℕ) → a < 256 ^ k → b < 256 ^ k → be k a ≡ be k b → a ≡ b
be_one_to_one k a b ha hb e =
    sym (read_be k a ha) ∙ ap (λ (s : List ℕ). number_at k s 0) e ∙ read_be k b hb
