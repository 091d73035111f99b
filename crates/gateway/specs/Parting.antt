-- Delete's meeting and prediction as the code has them, on bytes and on sides already recomputed. That they are the
-- model's is proved (Meets).
-- Assumes nothing.
use Rattle.std.specs.Prelude.{ℕ, zero, suc, ◌+◌, ◌-◌, min, Bool, true, false, cond, not, ◌&&◌, List, eqb, ltb}
use Rattle.octets.specs.Runs.{part, same}
use Rattle.skiplist.specs.Entry.{Entry}
use Rattle.skiplist.specs.Merge.{only_rights, only_downs, merge}
use Rattle.skiplist.specs.Label as label
use Rattle.labels.specs.declared.Side.{Side}
use Rattle.labels.specs.CodeSides.{leaf_of}
use Rattle.proofbytes.specs.declared.read.Fields.{Fields}
use Rattle.proofbytes.specs.declared.read.Beside.{Beside}
use Rattle.proofbytes.specs.Layout.{entry_size, down_kind}
use Rattle.proofbytes.specs.Reading.{at, fields_at, beside_at, entries_from, count_of}
use Rattle.gateway.specs.Climbing.{climbed, item_at, stop_side_of}

-- how many entries from the i-th on are equal, byte for byte, of n in the one proof and m in the other
unfoldable pub shared_from : List ℕ → List ℕ → ℕ → ℕ → ℕ → ℕ
shared_from a b i zero m = 0
shared_from a b i (suc n) zero = 0
shared_from a b i (suc n) (suc m) = cond (same (part a (at i) entry_size) (part b (at i) entry_size))
    (suc (shared_from a b (suc i) n m)) 0

unfoldable pub shared_of : List ℕ → List ℕ → ℕ
shared_of a b = shared_from a b 0 (count_of a) (count_of b)

-- an entry's rank and label are those of a side
unfoldable pub side_is : Fields → Side → Bool
side_is e t = eqb e.number t.rank && same e.bytes t.label

-- a stop's right side is one that was recomputed: an empty one is not
unfoldable pub beside_is : Beside → Side → Bool
beside_is b t = not (eqb b.rank 0) && (eqb b.rank t.rank && same b.label t.label)

-- two leaves have the same own and tag
unfoldable pub leaf_is : Fields → Fields → Bool
leaf_is e d = eqb e.number d.number && cond (eqb e.number 0) true (same e.bytes d.bytes)

-- the first goes down and the second right at one level; u and v are what they recompute below
unfoldable pub fork_of : Fields → Side → Fields → Side → Bool
fork_of e u d v =
    eqb e.kind down_kind
    && (not (eqb d.kind down_kind) && (not (eqb d.level 0)
    && (eqb e.level d.level && (side_is e v && side_is d u))))

-- the first stops and the second goes right at level 0
unfoldable pub halt_of : Fields → Beside → Fields → Side → Bool
halt_of e b d v = not (eqb d.kind down_kind) && (eqb d.level 0 && (leaf_is e d && beside_is b v))

-- after j shared entries
unfoldable pub parts_of : List ℕ → ℕ → List ℕ → ℕ → ℕ → Side → Side → Bool
parts_of a k b l j u v =
    cond (ltb j l) (cond (ltb j k) (fork_of (fields_at a j) u (fields_at b j) v)
    (halt_of (fields_at a k) (beside_at a k) (fields_at b j) v)) false

unfoldable pub only_of : Bool → List (Entry label.Side) → Bool
only_of true p = only_downs p
only_of false p = only_rights p

-- from the f-th entry of each on
unfoldable pub only_from : List ℕ → ℕ → List ℕ → ℕ → ℕ → Bool
only_from a k b l j =
    only_rights (entries_from a (min (j + 1) k) (k - min (j + 1) k))
    && only_downs (entries_from b (min (j + 1) l) (l - min (j + 1) l))

-- is the next entry from below the first's? At equal level the second's, a down one, is lower
unfoldable pub lower_of : List ℕ → ℕ → ℕ → List ℕ → ℕ → ℕ → Bool
lower_of a f i b g j = ltb f i && cond (ltb g j) (ltb (fields_at a (i - 1)).level (fields_at b (j - 1)).level) true

-- what is left without the second's column
unfoldable pub remains_of : List ℕ → ℕ → List ℕ → ℕ → ℕ → Side
remains_of a k b l j =
    climbed (entries_from a 0 j)
    (climbed (merge (entries_from a (min (j + 1) k) (k - min (j + 1) k))
    (entries_from b (min (j + 1) l) (l - min (j + 1) l)))
    (leaf_of (item_at a k) (stop_side_of (beside_at b l))))
