-- The shape printer's answer: "refused 1" for a bad image, "else a header with n and per block its position, height
-- and entries (also
-- above 200)". The numbers of entries are written into a lent buffer, which must have room for n.
-- Assumes nothing.
use Rattle.std.specs.Prelude.{ℕ, zero, suc, ◌-◌, ◌≡◌, cond, not, List, [], ◌∷◌, ltb, length}
use Rattle.octets.specs.Runs.{patch}
use Rattle.refusals.specs.declared.Refusal.TheVariants.{BadImage, NoRoom}
use Rattle.refusals.specs.Order.{Rule, ◌when◌, verdict_of, settled}
use Rattle.skiplist.specs.Blocks.{Block, way_to}
use Rattle.archive.specs.Reading.{count_of, height_at, blocks_of, held, sound}
use Rattle.shapes.specs.declared.Shaped.{Shaped}

-- the entries in the path to position p
abbrev pub entries_of : List Block → ℕ → ℕ
entries_of bs p = length (way_to p bs).entries

-- those of k positions, from p + 1 on
unfoldable pub entries_from : List Block → ℕ → ℕ → List ℕ
entries_from bs p zero = []
entries_from bs p (suc k) = entries_of bs (suc p) ∷ entries_from bs (suc p) k

abbrev pub shape_rules : List ℕ → ℕ → List Rule
shape_rules b room = (BadImage when not (sound b)) ∷ (NoRoom when ltb room (count_of b)) ∷ []

unfoldable pub shape_of : List ℕ → ℕ → Shaped
shape_of b room =
    let v = verdict_of (shape_rules b room) in
    record { verdict = v; blocks = settled v (count_of b) 0 }

unfoldable pub shape_after : List ℕ → List ℕ → List ℕ
shape_after b out = settled (verdict_of (shape_rules b (length out)))
    (patch out 0 (entries_from (blocks_of b) 0 (count_of b))) out

-- the height of the block at position p, 0 where there is none
unfoldable pub height_of : List ℕ → ℕ → ℕ
height_of b p = cond (held b p) (height_at b (p - 1)) 0

-- THE PLEDGE
pub record Shapes (b out : List ℕ) (r : Shaped) (after : List ℕ) : Type 0 where
  pub verdict : r.verdict ≡ (shape_of b (length out)).verdict
  pub blocks : r.blocks ≡ (shape_of b (length out)).blocks
  pub entries : after ≡ shape_after b out
