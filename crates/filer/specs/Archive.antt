-- "An archive's times are those of blocks whose tags stand in the row."
-- Assumes nothing.
use Rattle.std.specs.Prelude.{ℕ, ◌≤◌, ◌≡◌, ◌≢◌, cond, ltb, length, get_or}
use mathlib.Core.List.{List, [], ◌∷◌, ◌++◌, map, Memᴰ}
use Rattle.skiplist.specs.Blocks.{Block}
use Rattle.labels.specs.Tags.{most_readings}
use Rattle.filer.specs.Filing.{Timed, Proposal, tag_for}

-- each block's tag stands in the row, in its place
abbrev pub Stand : List Timed → List Block → Type 0
Stand [] [] = Unit {0}
Stand [] (b ∷ bs) = ⊥
Stand (x ∷ xs) [] = ⊥
Stand (x ∷ xs) (b ∷ bs) = (tag_for x ≡ b.tag) × Stand xs bs

abbrev pub times_of : List Timed → List ℕ
times_of xs = map (λ (x : Timed). x.time) xs

-- the block with p others before it
abbrev pub block_after : ℕ → List Timed → Timed
block_after p xs = get_or xs p (record { time = 0; readings = [] })

abbrev pub NoneLong : List Timed → Type 0
NoneLong [] = Unit {0}
NoneLong (x ∷ xs) = (length x.readings ≤ most_readings) × NoneLong xs

-- the neighbours that a filing needs, of n blocks
abbrev pub needed : Proposal → ℕ → List Timed
needed q n = cond (ltb 0 q.position) (q.left ∷ []) [] ++ cond (ltb q.position n) (q.right ∷ []) []

-- "a block sent and a different one in the archive share a tag"
pub record SharedTag (sent kept : List Timed) : Type 0 where
  pub one : Timed
  pub other : Timed
  pub one_sent : Memᴰ one sent
  pub other_kept : Memᴰ other kept
  pub differ : one ≢ other
  pub same : tag_for one ≡ tag_for other
