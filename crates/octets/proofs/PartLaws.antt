-- Laws of `part`: its length, one element more at either end, parts side by side, and the part that a patch wrote.
-- Assumes nothing.
use Prim.Native.Nat.{ℕ, suc, ◌+◌, ◌-◌, ◌≤◌, ◌<◌}
use mathlib.Core.Path.{◌≡◌, refl, ap, ◌∙◌}
use mathlib.Core.List.{List, [], ◌∷◌, ◌++◌, append_assoc}
use native.Mathlib.Omega.{arith}
use lib.ListN.{length, take, drop, get_or, length-drop}
use lib.Seq.{length-take-le, take-suc, take-add, take_at, take-length, drop-cons, drop-drop, drop_at, get_or-drop, get_or-take}
use Rattle.std.specs.List.{copy_within}
use Rattle.octets.specs.Runs.{patch, part}

pub length-part : (xs : List ℕ) (a k : ℕ) → a + k ≤ length xs → length (part xs a k) ≡ k
unfolding part
length-part xs a k h = length-take-le k (drop a xs) (simp length-drop (omega arith))

pub part_none : (xs : List ℕ) (a : ℕ) → part xs a 0 ≡ []
unfolding part
part_none xs a = refl

pub part_all : (xs : List ℕ) → part xs 0 (length xs) ≡ xs
unfolding part
part_all xs = take-length xs

-- one more at the front
pub part-cons : (xs : List ℕ) (a k : ℕ) → a < length xs → part xs a (suc k) ≡ get_or xs a 0 ∷ part xs (suc a) k
unfolding part
part-cons xs a k h = rw (drop-cons xs a 0 h)

-- one alone
pub part_one : (xs : List ℕ) (a : ℕ) → a < length xs → part xs a 1 ≡ get_or xs a 0 ∷ []
part_one xs a h = part-cons xs a 0 h ∙ ap (λ (ys : List ℕ). get_or xs a 0 ∷ ys) (part_none xs (suc a))

-- one more at the end
pub part-snoc : (xs : List ℕ) (a k : ℕ) → a + k < length xs → part xs a (suc k) ≡ part xs a k ++ (get_or xs (a + k) 0 ∷ [])
unfolding part
part-snoc xs a k h =
    rw (take-suc (drop a xs) k 0 (simp length-drop (omega arith)), get_or-drop a xs k 0)

-- side by side
pub part-add : (xs : List ℕ) (a j k : ℕ) → part xs a (j + k) ≡ part xs a j ++ part xs (a + j) k
unfolding part
part-add xs a j k = rw (take-add j k (drop a xs), drop-drop)

pub get_or-part : (xs : List ℕ) (a k i : ℕ) → i < k → get_or (part xs a k) i 0 ≡ get_or xs (a + i) 0
unfolding part
get_or-part xs a k i h = get_or-take k (drop a xs) i 0 h ∙ get_or-drop a xs i 0

-- what a patch wrote
pub part-patch : (xs ys : List ℕ) (a k : ℕ) → a ≤ length xs → length ys ≡ k → part (patch xs a ys) a k ≡ ys
unfolding part patch
part-patch xs ys a k h e =
    rw (drop_at (take a xs) (ys ++ drop (a + length ys) xs) a (length-take-le a xs h))
    (take_at ys (drop (a + length ys) xs) k e)

-- the middle of three runs
pub part_middle : (p q r : List ℕ) (a k : ℕ) → length p ≡ a → length q ≡ k → part (p ++ (q ++ r)) a k ≡ q
unfolding part
part_middle p q r a k ea ek = rw (drop_at p (q ++ r) a ea) (take_at q r k ek)

-- a part copied within its list
pub slid : (xs : List ℕ) (from to k : ℕ) → from + k ≤ length xs → copy_within xs from (from + k) to ≡ patch xs to (part xs from k)
unfolding patch part
slid xs from to k h =
    let e : from + k - from ≡ k = omega arith in
    rw (e, append_assoc (take to xs) (take k (drop from xs)), length-take-le k (drop from xs) (simp length-drop (omega arith)))
