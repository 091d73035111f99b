-- The way to a position in a tree, and when a proof is one for a position: in document 01's words, and over what
-- leaves weigh. For own 0 and 1 the two agree (Theorems: find_is_walk, proves-holds, holds-proves).
-- Assumes nothing.
use Rattle.std.specs.Prelude.{ℕ, zero, suc, ◌-◌, ◌≤◌, ◌<◌, ◌≡◌, ◌⊎◌, Bool, cond, [], eqb, leb}
use Rattle.skiplist.specs.Tree.{Tree, empty, leaf, node, rank}
use Rattle.skiplist.specs.Sides.{Sides}
use Rattle.skiplist.specs.Entry.{down, right, pass, Place, under}
use Rattle.skiplist.specs.Recompute.{passed, proved_position}

-- in the empty side there is no way
abbrev pub nowhere : Place Tree
nowhere = record { entries = []; item = record { own = 0; third = [] }; side = empty }

-- "To find p: at a node go down if p is at most the lower rank, else subtract that rank and go right. At a leaf stop
-- if", by the test `stops` on p and own, "else subtract own and go right."
abbrev pub way : (ℕ → ℕ → Bool) → ℕ → Tree → Place Tree
way stops p empty = nowhere
way stops p (leaf c r) =
    cond (stops p c.own) (record { entries = []; item = c; side = r }) (under (pass c) (way stops (p - c.own) r))
way stops p (node l a b) =
    cond (leb p (rank a)) (under (down l b) (way stops p a)) (under (right l a) (way stops (p - rank a) b))

-- document 01's way: "At a leaf stop if p equals its own"
abbrev pub find : ℕ → Tree → Place Tree
find = way eqb

-- the way by weights: stop at the leaf that holds the p-th of what is counted
abbrev pub walk : ℕ → Tree → Place Tree
walk = way leb

-- "Own is 0 for the head, 1 for a block." The own of the column at position p
abbrev pub own_at : ℕ → ℕ
own_at zero = 0
own_at (suc p) = 1

module _ {S : Type 0} (𝓢 : Sides S) where
  -- not 8: "proved position is not the one wanted, or stop's own is not 1 (0 for position 0)"
  abbrev pub Proves : ℕ → Place S → Type 0
  Proves p z = (proved_position 𝓢 z ≡ p) × (z.item.own ≡ own_at p)

  -- the same by weights: the stop's leaf holds the p-th of what is counted, since it begins where `passed` ends; or it
  -- is the head, and p is 0
  abbrev pub Holds : ℕ → Place S → Type 0
  Holds p z = ((passed 𝓢 z.entries < p) × (p ≤ proved_position 𝓢 z))
      ⊎ ((p ≡ 0) × (passed 𝓢 z.entries ≡ 0) × (z.item.own ≡ 0))
