-- "A height is drawn from a 16-bit coin word: the number of trailing zero bits of the word, at most 15."
-- Assumes nothing.
use Rattle.std.specs.Prelude.{ℕ, zero, suc, ◌/◌, ◌%◌, cond, ◌==◌}
use Rattle.skiplist.specs.Limits.{most_height}

-- the trailing zero bits of w, at most k of them
unfoldable pub trailing : ℕ → ℕ → ℕ
trailing zero w = 0
trailing (suc k) w = cond (w % 2 == 0) (suc (trailing k (w / 2))) 0

unfoldable pub height_of : ℕ → ℕ
height_of w = trailing most_height w
