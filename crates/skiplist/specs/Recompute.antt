-- What a path's entries and stop make of the root, and what they say of its rank and of the position.
-- Assumes nothing.
use Rattle.std.specs.Prelude.{ℕ, ◌+◌, List, [], ◌∷◌}
use Rattle.skiplist.specs.Sides.{Sides}
use Rattle.skiplist.specs.Entry.{Entry, down, right, pass, Place}

module _ {S : Type 0} (𝓢 : Sides S) where
  -- the side that an entry makes of the side below it
  abbrev pub push : Entry S → S → S
  push (down l s) t = 𝓢.node l t s
  push (right l s) t = 𝓢.node l s t
  push (pass c) t = 𝓢.leaf c t

  -- the side that entries from the root make of the side below them
  abbrev pub plug : List (Entry S) → S → S
  plug [] t = t
  plug (e ∷ p) t = push e (plug p t)

  -- the root that a place recomputes
  abbrev pub whole : Place S → S
  whole z = plug z.entries (𝓢.leaf z.item z.side)

  -- the rank or own field of an entry
  abbrev pub field : Entry S → ℕ
  field (down l s) = 𝓢.weight s
  field (right l s) = 𝓢.weight s
  field (pass c) = c.own

  -- "the rank or own fields of all right entries"
  abbrev pub passed : List (Entry S) → ℕ
  passed [] = 0
  passed (down l s ∷ p) = passed p
  passed (right l s ∷ p) = 𝓢.weight s + passed p
  passed (pass c ∷ p) = c.own + passed p

  -- "Proved position: the rank or own fields of all right entries, plus the stop's own."
  abbrev pub proved_position : Place S → ℕ
  proved_position z = passed z.entries + z.item.own

  -- "Proved rank: all rank and own fields added."
  abbrev pub fields : List (Entry S) → ℕ
  fields [] = 0
  fields (e ∷ p) = field e + fields p

  abbrev pub proved_rank : Place S → ℕ
  proved_rank z = fields z.entries + (z.item.own + 𝓢.weight z.side)
