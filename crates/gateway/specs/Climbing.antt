-- What the code recomputes, going up from the stop: the model's rules over sides as the code has them. That it is the
-- model's rank and label where ranks fit 64 bits is proved (Exact).
-- Assumes nothing.
use Rattle.std.specs.Prelude.{ℕ, suc, ◌-◌, min, Bool, true, false, cond, List, [], ◌∷◌, map, eqb}
use Rattle.skiplist.specs.Row.{Item}
use Rattle.skiplist.specs.Entry.{Entry, down, right, pass, Place, map_entry}
use Rattle.skiplist.specs.Recompute.{push, plug}
use Rattle.skiplist.specs.Edits.{keeps}
use Rattle.skiplist.specs.Label as label
use Rattle.skiplist.specs.Blocks.{item_of}
use Rattle.gateway.specs.declared.climb.Taken.{Taken}
use Rattle.gateway.specs.declared.climb.Taken.TheVariants.{All, Downs, Rights, Nothing}
use Rattle.labels.specs.declared.Side.{Side}
use Rattle.labels.specs.CodeSides.{no_side, leaf_of, coded}
use Rattle.proofbytes.specs.declared.read.Beside.{Beside}
use Rattle.proofbytes.specs.Reading.{fields_at, beside_at, entries_from, count_of}

-- a side that an entry carries
abbrev pub of_side : label.Side → Side
of_side s = record { rank = s.rank; label = s.label; empty = false }

abbrev pub coding : Entry label.Side → Entry Side
coding e = map_entry of_side e

-- the side that entries make of the side below them
abbrev pub climbed : List (Entry label.Side) → Side → Side
climbed p t = plug coded (map coding p) t

-- does a climb take down entries, and the others?
abbrev pub takes_downs : Taken → Bool
takes_downs All = true
takes_downs Downs = true
takes_downs Rights = false
takes_downs Nothing = false

abbrev pub takes_rights : Taken → Bool
takes_rights All = true
takes_rights Downs = false
takes_rights Rights = true
takes_rights Nothing = false

-- the down entries where `downs`, the right ones where `rights`
abbrev pub chosen : Bool → Bool → Entry label.Side → Bool
chosen downs rights (down l s) = downs
chosen downs rights (right l s) = rights
chosen downs rights (pass c) = rights

abbrev pub taken : Bool → Bool → List (Entry label.Side) → List (Entry label.Side)
taken downs rights [] = []
taken downs rights (e ∷ p) = cond (chosen downs rights e) (e ∷ taken downs rights p) (taken downs rights p)

abbrev pub push_if : Bool → Bool → Entry label.Side → Side → Side
push_if downs rights e t = cond (chosen downs rights e) (push coded (coding e) t) t

-- the stop's right side, its item, its leaf
unfoldable pub stop_side_of : Beside → Side
stop_side_of b = cond (eqb b.rank 0) no_side (record { rank = b.rank; label = b.label; empty = false })

abbrev pub item_at : List ℕ → ℕ → Item
item_at s k = item_of (fields_at s k).number (fields_at s k).bytes

abbrev pub stop_leaf : List ℕ → ℕ → Side
stop_leaf s k = leaf_of (item_at s k) (stop_side_of (beside_at s k))

-- n entries from the i-th on
abbrev pub coded_entries : List ℕ → ℕ → ℕ → List (Entry Side)
coded_entries s i n = map coding (entries_from s i n)

-- k entries and the stop
abbrev pub coded_place : List ℕ → ℕ → Place Side
coded_place s k = record { entries = coded_entries s 0 k; item = item_at s k; side = stop_side_of (beside_at s k) }

-- how many entries Insert at height h keeps
abbrev pub kept_count : ℕ → List (Entry label.Side) → ℕ
kept_count h [] = 0
kept_count h (e ∷ p) = cond (keeps h e) (suc (kept_count h p)) 0

-- what a proof recomputes below its first f entries
unfoldable pub below_of : List ℕ → ℕ → Side
below_of s f =
    climbed (entries_from s (min f (count_of s)) (count_of s - min f (count_of s))) (stop_leaf s (count_of s))
