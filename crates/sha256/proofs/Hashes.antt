-- The hash value over the blocks of a message and then of the padded message's end; its words as bytes; a digest is 32
-- bytes.
-- Assumes nothing.
use Rattle.std.proofs.Common.{◌≡◌, ℕ, zero, suc, ◌+◌, ◌-◌, ◌*◌, ◌/◌, ◌%◌, ◌<◌, ◌≤◌, List, [], ◌∷◌, ◌++◌, length, get_or, take, drop, sym, refl, ap, ◌∙◌, ap₂, append_assoc, zero-le, add-zero, add-suc, zero-add, add-one, arith, length-append, length-drop, take-append-drop, length-take-le, take_all, take-suc, drop-drop, drop_at}
use lib.Seq.{take-append-le, drop-append-le}
use Rattle.octets.specs.Numbers.{be, Bytes}
use Rattle.octets.specs.Runs.{part, patch}
use Rattle.octets.proofs.NumberLaws.{length-be}
use Rattle.octets.proofs.PatchLaws.{patch_all}
use Rattle.sha256.specs.Padding.{padding, padded, padded_after, blocks, block, Ends}
use Rattle.sha256.specs.Constants.{initial}
use Rattle.sha256.specs.Hash.{sums, compressed, hashed, hash_value, After, joined, sha256}
use Rattle.sha256.proofs.Endings.{front_patch, padded_after-length}

-- no block
pub hashed_none : (s p : List ℕ) → length p < 64 → s ≡ hashed s p (length p / 64)
unfolding hashed
hashed_none s p h = let e : length p / 64 ≡ 0 = omega arith in rw e

-- the blocks of a front are those of the whole
block_front : (m z : List ℕ) (i : ℕ) → suc i * 64 ≤ length m → block (m ++ z) i ≡ block m i
unfolding part
block_front m z i h =
    rw (drop-append-le (i * 64) m z (omega arith))
    (take-append-le 64 (drop (i * 64) m) z (simp length-drop (omega arith)))

hashed_front : (s m z : List ℕ) (i : ℕ) → i * 64 ≤ length m → hashed s (m ++ z) i ≡ hashed s m i
unfolding hashed
hashed_front s m z zero h = refl
hashed_front s m z (suc i) h = ap₂ compressed (hashed_front s m z i (omega arith)) (block_front m z i h)

-- blocks i to i + j - 1 are the first j of what is left after the first i
block_rest : (p : List ℕ) (i j : ℕ) → block (drop (i * 64) p) j ≡ block p (i + j)
unfolding part
block_rest p i j =
    let e : i * 64 + j * 64 ≡ (i + j) * 64 = omega arith in
    rw (drop-drop (j * 64) (i * 64) p, e)

hashed_rest : (s p : List ℕ) (i j : ℕ) → hashed (hashed s p i) (drop (i * 64) p) j ≡ hashed s p (i + j)
unfolding hashed
hashed_rest s p i zero = rw add-zero
hashed_rest s p i (suc j) = rw add-suc (ap₂ compressed (hashed_rest s p i j) (block_rest p i j))

one_block : (s t : List ℕ) → length t ≡ 64 → hashed s t 1 ≡ compressed s t
unfolding hashed part
one_block s t h = ap (compressed s) (take_all 64 t (omega arith))

-- a block x, then what is left of p
pub hashed_chunk : (s v x r p : List ℕ) → length x ≡ 64 → p ≡ x ++ r → v ≡ compressed s x
    → hashed v r (length r / 64) ≡ hashed s p (length p / 64)
hashed_chunk s v x r p l ep e =
    let d : drop (1 * 64) (x ++ r) ≡ r = drop_at x r 64 l in
    let f : v ≡ hashed s (x ++ r) 1 = e ∙ sym (one_block s x l) ∙ sym (hashed_front s x r 1 (omega (arith, l))) in
    let q : length (x ++ r) / 64 ≡ 1 + length r / 64 = rw (length-append x r) (omega (arith, l)) in
    rw (ep, q)
    (ap₂ (λ (u y : List ℕ). hashed u y (length r / 64)) f (sym d) ∙ hashed_rest s (x ++ r) 1 (length r / 64))

-- ---- a message in parts

-- whole blocks x, then what follows them
hashed-after : (x p s : List ℕ) (n j : ℕ) → n % 64 ≡ 0 → After x s n → hashed s p j ≡ hashed initial (x ++ p) (n / 64 + j)
hashed-after x p s n j h a =
    let i = n / 64 in
    let f : s ≡ hashed initial (x ++ p) i = a.value ∙ sym (hashed_front initial x p i (omega (arith, a.size))) in
    let d : drop (i * 64) (x ++ p) ≡ p = drop_at x p (i * 64) (omega (arith, a.size)) in
    ap₂ (λ (v q : List ℕ). hashed v q j) f (sym d) ∙ hashed_rest initial (x ++ p) i j

-- nothing comes before a message
pub after_none : After [] initial 0
unfolding hashed
after_none = record { size = refl; value = refl }

-- one more block
pub after_block : (x y s v : List ℕ) (n : ℕ) → n % 64 ≡ 0 → length y ≡ 64 → After x s n → v ≡ compressed s y
    → After (x ++ y) v (n + 64)
after_block x y s v n h l a e =
    let q : (n + 64) / 64 ≡ n / 64 + 1 = omega arith in
    record {
      size = length-append x y ∙ omega (arith, a.size);
      value = rw q (e ∙ sym (one_block s y l) ∙ hashed-after x y s n 1 h a);
    }

-- a message's own whole blocks, which are n bytes
pub after_front : (m s : List ℕ) (n : ℕ) → n ≡ length m / 64 * 64 → s ≡ hashed initial m (length m / 64) → After (take n m) s n
after_front m s n en e =
    let q : n / 64 ≡ length m / 64 = omega arith in
    let l : length (take n m) ≡ n = length-take-le n m (omega arith) in
    let f = hashed_front initial (take n m) (drop n m) (length m / 64) (omega (arith, l)) in
    record { size = l; value = rw q (e ∙ ap (λ (k : List ℕ). hashed initial k (length m / 64)) (sym (take-append-drop n m)) ∙ f) }

-- the whole blocks of a message's last part, then those that end the padded message, as the code lends them
pub hashed_finish : (x m s v t r : List ℕ) (n end : ℕ) → n % 64 ≡ 0 → After x s n → v ≡ hashed s m (length m / 64)
    → Ends n m t end → r ≡ hashed v (take (end - 0) t) (length (take (end - 0) t) / 64) → r ≡ hash_value (x ++ m)
unfolding padded padded_after
hashed_finish x m s v t r n end h a e f g =
    let i = length m / 64 in
    let j = blocks (length m % 64) in
    let p = padded_after n m in
    let z : end - 0 ≡ end = omega arith in
    let l : length (drop (i * 64) p) / 64 ≡ j = rw (length-drop (i * 64) p, padded_after-length n m h) (omega arith) in
    let w : v ≡ hashed s p i = e ∙ sym (hashed_front s m (padding (n + length m)) i (omega arith)) in
    let q : n / 64 + (i + j) ≡ blocks (length (x ++ m)) = rw (length-append x m, a.size) (omega arith) in
    let y : x ++ p ≡ padded (x ++ m) = rw (length-append x m, a.size) (sym (append_assoc x m (padding (n + length m)))) in
    g ∙ rw (z, f.bytes, l, w) (hashed_rest s p i j ∙ hashed-after x p s n (i + j) h a ∙ ap₂ (hashed initial) y q)

-- ---- two parts a and b, as the code lends them

-- in one block t
filled : (a b t z : List ℕ) → length a + length b ≡ 64 → length z ≡ 64 → t ≡ patch z 0 (a ++ b) → t ≡ a ++ b
filled a b t z h l e = e ∙ patch_all z (a ++ b) (l ∙ sym (length-append a b ∙ h))

pub block_filled : (a b t z s r : List ℕ) → length a + length b ≡ 64 → length z ≡ 64 → t ≡ patch z 0 (a ++ b)
    → r ≡ hashed s t (length t / 64) → r ≡ compressed s (a ++ b)
block_filled a b t z s r h l e f =
    let w = filled a b t z h l e in
    let n : length t ≡ 64 = ap length w ∙ length-append a b ∙ h in
    let q : length t / 64 ≡ 1 = omega arith in
    f ∙ rw q (one_block s t n) ∙ ap (compressed s) w

pub front_filled : (a b t z : List ℕ) (k : ℕ) → k ≡ length a + length b → t ≡ patch z 0 (a ++ b) → take (k - 0) t ≡ a ++ b
front_filled a b t z k h e =
    let q : k - 0 ≡ k = omega arith in
    rw (q, e) (front_patch z (a ++ b) 0 k (zero-add (length (a ++ b)) ∙ length-append a b ∙ sym h) zero-le)

-- the block that both have a part in, and what is left of b
pub both_parts : (x a b : List ℕ) (c : ℕ) → c ≤ length b
    → (x ++ (a ++ take (c - 0) b)) ++ take (length b - c) (drop c b) ≡ x ++ (a ++ b)
both_parts x a b c h =
    let q : c - 0 ≡ c = omega arith in
    let d : take (length b - c) (drop c b) ≡ drop c b = take_all (length b - c) (drop c b) (simp length-drop (omega arith)) in
    rw (q, d, append_assoc x (a ++ take c b) (drop c b), append_assoc a (take c b) (drop c b), take-append-drop c b)

-- a's whole blocks, which are n bytes, and what is left of a
pub front_parts : (a b : List ℕ) (n : ℕ) → n ≤ length a → take n a ++ (take (length a - n) (drop n a) ++ b) ≡ a ++ b
front_parts a b n h =
    let d : take (length a - n) (drop n a) ≡ drop n a = take_all (length a - n) (drop n a) (simp length-drop (omega arith)) in
    rw (d, ← (append_assoc (take n a) (drop n a) b), take-append-drop n a)

-- ---- the words as bytes

joined-snoc : (s : List ℕ) (x : ℕ) → joined (s ++ (x ∷ [])) ≡ joined s ++ be 4 x
unfolding joined
joined-snoc [] x = refl
joined-snoc (y ∷ s) x = ap (λ (l : List ℕ). be 4 y ++ l) (joined-snoc s x)

joined-length : (s : List ℕ) → length (joined s) ≡ length s * 4
unfolding joined
joined-length [] = refl
joined-length (x ∷ s) = length-append (be 4 x) (joined s) ∙ omega (arith, length-be 4 x, joined-length s)

-- one more word
pub joined_more : (s out next : List ℕ) (i x : ℕ) → i < 8 → length s ≡ 8 → length out ≡ 32
    → take (i * 4) out ≡ joined (take i s)
    → x ≡ get_or s i 0 → next ≡ patch out (i * 4) (be 4 x) → take ((i + 1) * 4) next ≡ joined (take (i + 1) s)
joined_more s out next i x h ls lo e ex en =
    ap (take ((i + 1) * 4)) en
    ∙ front_patch out (be 4 x) (i * 4) ((i + 1) * 4) (omega (arith, length-be 4 x)) (omega arith)
    ∙ rw (e, ex, add-one i, take-suc s i 0 (omega arith)) (sym (joined-snoc (take i s) (get_or s i 0)))

pub joined_whole : (s out : List ℕ) (i : ℕ) → i ≤ 8 → 8 ≤ i → length s ≡ 8 → length out ≡ 32
    → take (i * 4) out ≡ joined (take i s) → out ≡ joined s
joined_whole s out i h k ls lo e =
    let z : i * 4 ≡ 32 = omega arith in
    sym (rw z (take_all 32 out (omega arith))) ∙ e ∙ ap joined (take_all i s (omega arith))

joined-bytes : (s : List ℕ) → Bytes (joined s)
unfolding joined
joined-bytes [] i = omega arith
joined-bytes (x ∷ s) zero = omega arith
joined-bytes (x ∷ s) (suc zero) = omega arith
joined-bytes (x ∷ s) (suc (suc zero)) = omega arith
joined-bytes (x ∷ s) (suc (suc (suc zero))) = omega arith
joined-bytes (x ∷ s) (suc (suc (suc (suc i)))) = joined-bytes s i

-- ---- a digest is 32 bytes

hashed-length : (p : List ℕ) (i : ℕ) → length (hashed initial p i) ≡ 8
unfolding hashed initial compressed sums
hashed-length p zero = refl
hashed-length p (suc i) = refl

pub sha256-length : (m : List ℕ) → length (sha256 m) ≡ 32
unfolding sha256
sha256-length m =
    let n = blocks (length m) in
    joined-length (hashed initial (padded m) n) ∙ rw (hashed-length (padded m) n)

pub sha256-bytes : (m : List ℕ) → Bytes (sha256 m)
unfolding sha256
sha256-bytes m = joined-bytes (hashed initial (padded m) (blocks (length m)))
