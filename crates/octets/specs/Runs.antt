-- Runs of bytes in a buffer: one written over another, two compared, one tested for zeros.
-- Assumes nothing.
use Rattle.std.specs.Prelude.{ℕ, ◌+◌, List, ◌++◌, Bool, nat_eq, length, take, drop, replicate}
use Rattle.std.specs.Cmp.Lexicographic.{pointwise}

-- xs with ys written over it from `at` on; the other elements stay
unfoldable pub patch : List ℕ → ℕ → List ℕ → List ℕ
patch xs at ys = take at xs ++ (ys ++ drop (at + length ys) xs)

-- the k elements of xs from `at` on
unfoldable pub part : List ℕ → ℕ → ℕ → List ℕ
part xs at k = take k (drop at xs)

-- are two runs the same, length and all?
abbrev pub same : List ℕ → List ℕ → Bool
same xs ys = pointwise nat_eq xs ys

-- is every element 0?
abbrev pub all_zero : List ℕ → Bool
all_zero xs = same xs (replicate (length xs) 0)
