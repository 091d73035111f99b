-- Laws of bytes that a patch leaves as they are: bytes beside it may be counted in, since they are written over themselves.
-- Assumes nothing.
use Prim.Native.Nat.{ℕ, ◌+◌, ◌≤◌}
use mathlib.Core.Path.{◌≡◌, refl, sym, ap, ◌∙◌}
use mathlib.Core.List.{List, [], ◌++◌, append_assoc, append-nil}
use native.Mathlib.Omega.{arith}
use lib.ListN.{length, take, drop, length-append, length-drop}
use lib.Seq.{take-add, length-take-le}
use Rattle.octets.specs.Runs.{patch, part}
use Rattle.octets.proofs.PatchLaws.{patch_none, patch_next, drop-patch, length-patch}

-- the k bytes before a patch
pub keep_before : (xs ys : List ℕ) (a k b : ℕ) → a + k ≡ b → b ≤ length xs → patch xs b ys ≡ patch xs a (part xs a k ++ ys)
unfolding patch part
keep_before xs ys a k b e h =
    let l : length (take k (drop a xs)) ≡ k = length-take-le k (drop a xs) (simp length-drop (omega arith)) in
    let f : take b xs ≡ take a xs ++ take k (drop a xs) = ap (λ (n : ℕ). take n xs) (sym e) ∙ take-add a k xs in
    let g : a + length (take k (drop a xs) ++ ys) ≡ b + length ys = simp (length-append, l) (omega arith) in
    rw (f, g) (simp append_assoc)

-- a part written over itself
pub keep_all : (xs : List ℕ) (a k : ℕ) → a + k ≤ length xs → patch xs a (part xs a k) ≡ xs
keep_all xs a k h =
    ap (patch xs a) (sym (append-nil (part xs a k))) ∙ sym (keep_before xs [] a k (a + k) refl h) ∙ patch_none xs (a + k)

-- the k bytes after a patch
pub keep_behind : (xs ys : List ℕ) (a k b : ℕ) → a + length ys ≡ b → b + k ≤ length xs → patch xs a ys ≡ patch xs a (ys ++ part xs b k)
unfolding part
keep_behind xs ys a k b e h =
    let l : length (patch xs a ys) ≡ length xs = length-patch xs ys a (omega arith) in
    let f : part (patch xs a ys) b k ≡ part xs b k = ap (take k) (drop-patch xs ys a b e (omega arith)) in
    sym (keep_all (patch xs a ys) b k (omega arith))
    ∙ ap (patch (patch xs a ys) b) f
    ∙ patch_next xs ys (part xs b k) a b e (omega arith)
