-- What the store's private functions compute, over the code's sides: no pledge cites these. Columns of the image b are
-- counted from the head, which is column 0.
-- Assumes nothing.
use Rattle.refusals.specs.Order.{Verdict}
use Rattle.std.specs.Prelude.{ℕ, zero, suc, ◌+◌, ◌-◌, ◌*◌, ◌≤◌, ◌<◌, ◌≡◌, true, cond, List, [], ◌∷◌, ◌++◌, map, ltb, length, Result, Ok, Err}
use Rattle.octets.specs.Runs.{patch}
use Rattle.refusals.specs.declared.Refusal.{Refusal}
use Rattle.skiplist.specs.Limits.{most_height, digest_bytes}
use Rattle.skiplist.specs.Row.{Item, Column}
use Rattle.skiplist.specs.Tree.{Tree, tree}
use Rattle.skiplist.specs.Sides.{side_of}
use Rattle.skiplist.specs.Entry.{Entry, down, right, pass, map_entry}
use Rattle.skiplist.specs.Merge.{merge}
use Rattle.skiplist.specs.Path.{right_entries}
use Rattle.skiplist.specs.Length.{tallest, right_columns, entry_count}
use Rattle.skiplist.specs.Slots.{slot, no_slots, over, sealed, shut, with_column, slots, open_slots}
use Rattle.skiplist.specs.Blocks.{head, block_item, row}
use Rattle.commands.specs.declared.Operation.{Operation}
use Rattle.commands.specs.declared.Operation.TheVariants.{Read, Replace, Insert, Delete}
use Rattle.labels.specs.declared.Side.{Side}
use Rattle.labels.specs.CodeSides.{to_side, coded, vacant}
use Rattle.archive.specs.declared.Layout.{Layout}
use Rattle.archive.specs.Reading.{layout_of, height_at, tag_at, blocks_from, sound}
use Rattle.proofbytes.specs.Layout.{entry_size}
use Rattle.proofbytes.specs.Writing.{entries_bytes}
use Rattle.store.specs.declared.plan.Mark.{Mark}
use Rattle.store.specs.declared.Proved.{Proved}
use Rattle.store.specs.declared.Applied.{Applied}

-- an image whose header has been read
pub record Opened (b : List ℕ) (x : Layout) : Type 0 where
  pub good : sound b ≡ true
  pub header : x ≡ layout_of b

-- SLOTS for the levels 0 to 15
abbrev pub slot_of : List Side → ℕ → Side
slot_of s l = slot coded vacant s l

abbrev pub no_slots_of : List Side
no_slots_of = no_slots coded vacant most_height

abbrev pub over_of : ℕ → Side → Side → Side
over_of l t s = over coded vacant l t s

abbrev pub sealed_of : List Side → ℕ → Side → Side
sealed_of s h t = sealed coded vacant s h t

abbrev pub shut_of : List Side → ℕ → List Side
shut_of s h = shut coded vacant s h

abbrev pub with_column_of : List Side → ℕ → Item → List Side
with_column_of s h c = with_column coded vacant s h c

abbrev pub slots_of : List Column → List Side
slots_of B = slots coded vacant most_height B

-- every slot's label has 32 bytes
abbrev pub Sized : List Side → Type 0
Sized s = (i : ℕ) → length (slot_of s i).label ≡ digest_bytes

-- COLUMNS: the item of column i; the run after column i up to column m; their tree
abbrev pub item_at : List ℕ → ℕ → Item
item_at b zero = head
item_at b (suc i) = block_item (tag_at b i)

abbrev pub run_of : List ℕ → ℕ → ℕ → List Column
run_of b i m = row (blocks_from b i (m - i))

abbrev pub tree_at : List ℕ → ℕ → ℕ → Tree
tree_at b i m = tree (item_at b i) (run_of b i m)

-- COUNTING by heights: the greatest height of a run and the number of its right entries
abbrev pub mark_of : List Column → Mark
mark_of A = record { level = tallest A; count = length (right_columns A) }

abbrev pub marked : Mark → ℕ → Mark
marked m h = cond (ltb h m.level) m (record { level = h; count = m.count + 1 })

abbrev pub risen : Mark → ℕ → Mark
risen m h = cond (ltb m.level h) (record { level = h; count = m.count + 1 }) m

-- the mark m with the run A put in front of what it marks
unfoldable pub onto : Mark → List Column → Mark
onto m [] = m
onto m (d ∷ A) = marked (onto m A) d.height

-- the number of entries in the path to column p of n
abbrev pub count_at : List ℕ → ℕ → ℕ → ℕ
count_at b n p = entry_count (run_of b 0 p) (run_of b p n)

-- the nearest column at or before column m whose height is at least h, or the head
unfoldable pub nearest : List ℕ → ℕ → ℕ → ℕ
nearest b h zero = zero
nearest b h (suc m) = cond (ltb (height_at b m) h) (nearest b h m) (suc m)

-- column a is the head, or no column after it up to column p is taller
abbrev pub Anchors : List ℕ → ℕ → ℕ → Type 0
Anchors b a p = (j : ℕ) → 0 < a → a ≤ j → j < p → height_at b j ≤ height_at b (a - 1)

-- a refused proof
abbrev pub refused_proof : Refusal → Proved
refused_proof r = record { verdict = Err r; length = 0; entries = 0 }

-- a refused edit
abbrev pub refused_edit : Verdict → Applied
refused_edit v = record { verdict = v; count = 0 }

-- what is answered, by what the steps up to the first refusal that is due come to
abbrev pub proved_or : Result Proved Refusal → Proved
proved_or (Ok t) = t
proved_or (Err r) = refused_proof r

abbrev pub applied_or : Result Applied Refusal → Applied
applied_or (Ok t) = t
applied_or (Err r) = refused_edit (Err r)

-- the count that an operation leaves of n blocks
abbrev pub count_after : Operation → ℕ → ℕ
count_after Read n = n
count_after Replace n = n
count_after Insert n = n + 1
count_after Delete n = n - 1

-- ENTRIES over the code's sides, and their bytes
abbrev pub bytes_of : List (Entry Side) → List ℕ
bytes_of es = entries_bytes (map (map_entry to_side) es)

-- the entries es written right before entry number r of the proof's entries, which begin at `at`: q come before them
abbrev pub Put : List ℕ → ℕ → ℕ → List (Entry Side) → ℕ → List ℕ → Type 0
Put old at r es q new = (q + length es ≡ r) × (new ≡ patch old (at + entry_size * q) (bytes_of es))

-- an open slot as an entry; those above level l up to level m, the highest first
abbrev pub open_of : ℕ → Side → List (Entry Side)
open_of l s = cond (vacant s) [] (down l s ∷ [])

unfoldable pub span_of : List Side → ℕ → ℕ → List (Entry Side)
span_of s l zero = []
span_of s l (suc m) = cond (ltb l (suc m)) (open_of (suc m) (slot_of s (suc m)) ++ span_of s l m) []

-- the entry that goes right past column i and those after it up to column m, to column m + 1 of height h
abbrev pub cross_of : Item → ℕ → Tree → Entry Side
cross_of c zero t = pass c
cross_of c (suc h) t = right (suc h) (side_of coded t)

unfoldable pub cross_at : List ℕ → ℕ → ℕ → ℕ → Entry Side
cross_at b i m h = cross_of (item_at b i) h (tree_at b i m)

-- the right entries of the path to column p, from column a on; the same with the down entries of the slots s up to
-- level l
unfoldable pub rights_at : List ℕ → ℕ → ℕ → List (Entry Side)
rights_at b p a = map (map_entry (side_of coded)) (right_entries (item_at b a) (run_of b a p))

unfoldable pub tail_at : List ℕ → List Side → ℕ → ℕ → ℕ → List (Entry Side)
tail_at b s p a l = merge (rights_at b p a) (open_slots coded vacant s l)

-- the whole path to column p, s the slots of the columns after p; the same of n columns
abbrev pub path_of : List ℕ → List Side → ℕ → List (Entry Side)
path_of b s p = tail_at b s p 0 most_height

abbrev pub entries_of : List ℕ → ℕ → ℕ → List (Entry Side)
entries_of b n p = path_of b (slots_of (run_of b p n)) p
