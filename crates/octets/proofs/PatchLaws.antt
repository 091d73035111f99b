-- Laws of `patch`: what a store, a lent part and patches side by side make of a list, and what is read from it afterwards.
-- Assumes nothing.
use Prim.Native.Nat.{ℕ, suc, ◌+◌, ◌-◌, ◌≤◌, ◌<◌}
use mathlib.Core.Path.{◌≡◌, refl, sym, ◌∙◌}
use mathlib.Core.List.{List, [], ◌∷◌, ◌++◌, append_assoc, append-nil}
use native.Mathlib.Nat.{zero-add, add-zero, add_assoc, suc-add, add-suc}
use native.Mathlib.Omega.{arith}
use native.Mathlib.Numerals.{add-one}
use lib.ListN.{length, take, drop, set, get_or, length-append, length-drop, take-append-drop}
use lib.Seq.{set_split, set_at, length-take-le, take_at, take-suc, take-take, take-append-le, drop_at, drop-drop, drop-append-add, drop-length}
use borrow.Rule.Slice.PartMut.{put_mid}
use Rattle.octets.specs.Runs.{patch}

-- nothing written
pub patch_none : (xs : List ℕ) (a : ℕ) → patch xs a [] ≡ xs
unfolding patch
patch_none xs a = rw add-zero (take-append-drop a xs)

-- everything written over
pub patch_all : (xs ys : List ℕ) → length xs ≡ length ys → patch xs 0 ys ≡ ys
unfolding patch
patch_all xs ys e = rw (← e, zero-add, drop-length, append-nil)

pub length-patch : (xs ys : List ℕ) (a : ℕ) → a + length ys ≤ length xs → length (patch xs a ys) ≡ length xs
unfolding patch
length-patch xs ys a h = simp (length-append, length-drop, length-take-le a xs (omega arith)) (omega arith)

-- ---- one patch from several

-- a store is a patch of one
pub of_set : (xs : List ℕ) (i v : ℕ) → i < length xs → set xs i v ≡ patch xs i (v ∷ [])
unfolding patch
of_set xs i v h = set_split xs i v h ∙ rw add-one

-- a part that was lent comes back as a patch
pub of_part : (xs ys : List ℕ) (a k : ℕ) → length ys ≡ k → put_mid a k xs ys ≡ patch xs a ys
unfolding patch
of_part xs ys a k e = rw (← e, drop-drop)

pub of_lent : (xs ys : List ℕ) (a k : ℕ) → length ys ≡ k → put_mid a (a + k - a) xs ys ≡ patch xs a ys
of_lent xs ys a k e = let f : a + k - a ≡ k = omega arith in rw f (of_part xs ys a k e)

-- the front kept, some put in after it, and the rest
behind : (p q zs : List ℕ) (b : ℕ) → length p ≡ b
    → take b (p ++ q) ++ (zs ++ drop (b + length zs) (p ++ q)) ≡ p ++ (zs ++ drop (length zs) q)
behind p q zs b e = rw (take_at p q b e, ← e, drop-append-add p q (length zs))

-- a patch right behind a patch
pub patch_next : (xs ys zs : List ℕ) (a b : ℕ) → a + length ys ≡ b → b ≤ length xs
    → patch (patch xs a ys) b zs ≡ patch xs a (ys ++ zs)
unfolding patch
patch_next xs ys zs a b e h =
    let l : length (take a xs ++ ys) ≡ b = simp (length-append, length-take-le a xs (omega arith)) e in
    rw (← append_assoc (take a xs) ys (drop (a + length ys) xs))
    (behind (take a xs ++ ys) (drop (a + length ys) xs) zs b l ∙ simp (append_assoc, drop-drop, length-append, add_assoc))

-- and right before one
pub patch_before : (xs ys zs : List ℕ) (a b : ℕ) → a + length ys ≡ b → b ≤ length xs
    → patch (patch xs b zs) a ys ≡ patch xs a (ys ++ zs)
unfolding patch
patch_before xs ys zs a b e h =
    let t : length (take b xs) ≡ b = length-take-le b xs h in
    rw (
      take-append-le a (take b xs) (zs ++ drop (b + length zs) xs) (omega arith),
      take-take a b xs (omega arith),
      drop_at (take b xs) (zs ++ drop (b + length zs) xs) (a + length ys) (t ∙ sym e),
    )
    (let q : b + length zs ≡ a + (length ys + length zs) = omega arith in simp (append_assoc, length-append, q))

-- a store right behind a patch
pub set_next : (xs ys : List ℕ) (a b v : ℕ) → a + length ys ≡ b → b < length xs
    → set (patch xs a ys) b v ≡ patch xs a (ys ++ (v ∷ []))
set_next xs ys a b v e h =
    of_set (patch xs a ys) b v (rw (length-patch xs ys a (omega arith)) h) ∙ patch_next xs ys (v ∷ []) a b e (omega arith)

-- and right before one
pub set_before : (xs ys : List ℕ) (a v : ℕ) → a < length xs → set (patch xs (suc a) ys) a v ≡ patch xs a (v ∷ ys)
unfolding patch
set_before xs ys a v h =
    rw (take-suc xs a 0 h, append_assoc (take a xs) (get_or xs a 0 ∷ []) (ys ++ drop (suc a + length ys) xs))
    (set_at (take a xs) (get_or xs a 0) (ys ++ drop (suc a + length ys) xs) v a (length-take-le a xs (omega arith))
    ∙ rw (suc-add, add-suc))

-- two stores side by side
pub of_two : (xs : List ℕ) (a v w : ℕ) → a + 2 ≤ length xs → set (set xs a v) (a + 1) w ≡ patch xs a (v ∷ w ∷ [])
of_two xs a v w h = rw (of_set xs a v (omega arith)) (set_next xs (v ∷ []) a (a + 1) w refl (omega arith))

-- ---- what is read after a patch

-- the front up to it, and the rest behind it
pub take-patch : (xs ys : List ℕ) (a : ℕ) → a ≤ length xs → take a (patch xs a ys) ≡ take a xs
unfolding patch
take-patch xs ys a h = take_at (take a xs) (ys ++ drop (a + length ys) xs) a (length-take-le a xs h)

pub drop-patch : (xs ys : List ℕ) (a b : ℕ) → a + length ys ≡ b → b ≤ length xs → drop b (patch xs a ys) ≡ drop b xs
unfolding patch
drop-patch xs ys a b e h =
    let l : length (take a xs ++ ys) ≡ b = simp (length-append, length-take-le a xs (omega arith)) e in
    rw (← append_assoc (take a xs) ys (drop (a + length ys) xs), e) (drop_at (take a xs ++ ys) (drop b xs) b l)

-- a patch is settled by what lies before it and behind it
patch_around : (xs ws zs : List ℕ) (a : ℕ) → take a ws ≡ take a xs → drop (a + length zs) ws ≡ drop (a + length zs) xs
    → patch ws a zs ≡ patch xs a zs
unfolding patch
patch_around xs ws zs a t d = rw (t, d)

-- a patch over a patch of the same length
pub patch_over : (xs ys zs : List ℕ) (a : ℕ) → length ys ≡ length zs → a + length ys ≤ length xs
    → patch (patch xs a ys) a zs ≡ patch xs a zs
patch_over xs ys zs a e h =
    patch_around xs (patch xs a ys) zs a (take-patch xs ys a (omega arith))
    (drop-patch xs ys a (a + length zs) (omega arith) (omega arith))
