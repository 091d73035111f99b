-- "Meeting for Delete", and what Delete makes of two proofs, the first for the column before those that go, the
-- second for the last of those: over any kind of sides that can be compared. A run of columns is removed by the same
-- rule without `only_below`.
-- Assumes nothing.
use Rattle.std.specs.Prelude.{ℕ, Bool, false, cond, ◌&&◌, List, [], ◌∷◌, eqb}
use Rattle.std.proofs.Math.Option.{Option, none, some}
use Rattle.skiplist.specs.Row.{Item}
use Rattle.skiplist.specs.Sides.{Sides}
use Rattle.skiplist.specs.Entry.{Entry, down, right, pass, Place}
use Rattle.skiplist.specs.Recompute.{plug}
use Rattle.skiplist.specs.Merge.{rights, downs, only_rights, only_downs, merge}
use Rattle.skiplist.specs.Equal.{is, item-discrete, same}

-- the entries that two paths share from the root, and what is left of the first and of the second
pub record Parting (S : Type 0) : Type 0 where
  pub shared : List (Entry S)
  pub first : List (Entry S)
  pub second : List (Entry S)

-- the entries after the first one: those below the place where the paths part
abbrev pub later : {S : Type 0} → List (Entry S) → List (Entry S)
later [] = []
later (e ∷ p) = p

-- "entries are equal up to a place"
abbrev pub share : {S : Type 0} → Entry S → Parting S → Parting S
share e g = record { shared = e ∷ g.shared; first = g.first; second = g.second }

abbrev pub parting : {S : Type 0} → Discrete S → List (Entry S) → List (Entry S) → Parting S
parting eq [] q = record { shared = []; first = []; second = q }
parting eq (e ∷ p) [] = record { shared = []; first = e ∷ p; second = [] }
parting eq (e ∷ p) (d ∷ q) =
    cond (same eq e d) (share e (parting eq p q)) (record { shared = []; first = e ∷ p; second = d ∷ q })

module _ {S : Type 0} (𝓢 : Sides S) (eq : Discrete S) where
  -- "the first stops and the second goes right at level 0 with the same own and tag", and "each proof's side rank and
  -- label equal what the other recomputes": c and r are the first's stop, x and u the second's
  abbrev pub stops_at : Item → S → List (Entry S) → Item → S → Bool
  stops_at c r [] x u = false
  stops_at c r (down k t ∷ q) x u = false
  stops_at c r (right k t ∷ q) x u = false
  stops_at c r (pass d ∷ q) x u = is (item-discrete c d) && is (eq r (plug 𝓢 q (𝓢.leaf x u)))

  -- "the first proof goes down and the second right at one level", and the same of the sides: v is what the first
  -- recomputes
  abbrev pub forks_at : ℕ → S → S → List (Entry S) → Item → S → Bool
  forks_at l s v [] x u = false
  forks_at l s v (down k t ∷ q) x u = false
  forks_at l s v (right k t ∷ q) x u = eqb l k && (is (eq s (plug 𝓢 q (𝓢.leaf x u))) && is (eq t v))
  forks_at l s v (pass d ∷ q) x u = false

  abbrev pub parts_at : List (Entry S) → Item → S → List (Entry S) → Item → S → Bool
  parts_at [] c r q x u = stops_at c r q x u
  parts_at (down l s ∷ p) c r q x u = forks_at l s (plug 𝓢 p (𝓢.leaf c r)) q x u
  parts_at (right l s ∷ p) c r q x u = false
  parts_at (pass d ∷ p) c r q x u = false

  -- the paths of z and w part, and their sides agree there
  abbrev pub parts : Place S → Place S → Bool
  parts z w =
      let g = parting eq z.entries w.entries in
      parts_at g.first z.item z.side g.second w.item w.side

  -- "Below it the first has only right entries, the second only down entries."
  abbrev pub only_below : Place S → Place S → Bool
  only_below z w =
      let g = parting eq z.entries w.entries in
      only_rights (later g.first) && only_downs (later g.second)

  abbrev pub meets : Place S → Place S → Bool
  meets z w = parts z w && only_below z w

  -- "Delete keeps the entries above the place where the paths part; below come the first's later right entries and
  -- the second's later down entries by falling level, a right one first at equal level, ending in the first's stop
  -- leaf with the right side of the second's stop."
  abbrev pub remains : Place S → Place S → S
  remains z w =
      let g = parting eq z.entries w.entries in
      let below = merge (rights (later g.first)) (downs (later g.second)) in
      plug 𝓢 g.shared (plug 𝓢 below (𝓢.leaf z.item w.side))

  -- what Delete makes of two proofs, none where they do not meet; and the removal of a run
  abbrev pub deleted : Place S → Place S → Option S
  deleted z w = cond (meets z w) (some (remains z w)) none

  abbrev pub removed : Place S → Place S → Option S
  removed z w = cond (parts z w) (some (remains z w)) none
