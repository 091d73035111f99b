-- Document 01's row: blocks with a height and a tag, behind the head. What a leaf's own and third are is said here
-- alone.
-- Assumes nothing.
use Rattle.std.specs.Prelude.{ℕ, zero, suc, ◌≤◌, ◌≡◌, ◌⊎◌, Bool, true, false, cond, List, [], ◌∷◌, map, eqb, length, replicate}
use Rattle.skiplist.specs.Row.{Item, Column}
use Rattle.skiplist.specs.Tree.{Tree, tree}
use Rattle.skiplist.specs.Entry.{Place}
use Rattle.skiplist.specs.Find.{find}
use Rattle.skiplist.specs.Label.{Side, nothing, metadata}
use Rattle.skiplist.specs.Limits.{most_blocks, most_height, digest_bytes}

-- "Columns 1 to n each have a tag and a height."
pub record Block : Type 0 where
  pub height : ℕ
  pub tag : List ℕ

-- 32 zero bytes: what the field of a missing tag holds
abbrev pub zeros : List ℕ
zeros = replicate digest_bytes 0

-- the third of a leaf, from its own and its tag field: "Third is the 32-byte tag for a leaf", "the head's missing
-- tag, is the ONE byte 0"
abbrev pub third : ℕ → List ℕ → List ℕ
third own tag = cond (eqb own 0) nothing tag

abbrev pub item_of : ℕ → List ℕ → Item
item_of own tag = record { own = own; third = third own tag }

-- the tag field of a leaf: "the tag field all zero if own is 0"
abbrev pub shown : Item → List ℕ
shown c = cond (eqb c.own 0) zeros c.third

-- "Own is 0 for the head, 1 for a block."
abbrev pub head : Item
head = item_of 0 zeros

abbrev pub block_item : List ℕ → Item
block_item tag = item_of 1 tag

abbrev pub column : Block → Column
column b = record { height = b.height; item = block_item b.tag }

abbrev pub row : List Block → List Column
row bs = map column bs

-- "The root is tree(head, all blocks)."
abbrev pub root : List Block → Tree
root bs = tree head (row bs)

-- document 01's way to a position
abbrev pub way_to : ℕ → List Block → Place Tree
way_to p bs = find p (root bs)

-- "Metadata is count and root label."
abbrev pub metadata_of : (List ℕ → List ℕ) → List Block → Side
metadata_of H bs = metadata H head (row bs)

-- what stands in a leaf of an archive: the head in the first of all, a block in the others
abbrev pub Kept : Bool → Item → Type 0
Kept true c = (c.own ≡ 0) × (c.third ≡ nothing)
Kept false c = (c.own ≡ 1) × (length c.third ≡ digest_bytes)

-- what a proof may say of a leaf: "own 0 or 1, and the tag field all zero if own is 0", wherever it stands
abbrev pub Sent : Bool → Item → Type 0
Sent f c = Kept true c ⊎ Kept false c

-- a row within the limits
abbrev pub AllSound : List Block → Type 0
AllSound [] = Unit {0}
AllSound (b ∷ bs) = (b.height ≤ most_height) × (length b.tag ≡ digest_bytes) × AllSound bs

pub record WithinLimits (bs : List Block) : Type 0 where
  pub sound : AllSound bs
  pub count : length bs ≤ most_blocks

-- the tag of the block with p blocks before it; the tag at a position, "32 zero bytes for p = 0"
abbrev pub tag_after : ℕ → List Block → List ℕ
tag_after p [] = zeros
tag_after zero (b ∷ bs) = b.tag
tag_after (suc p) (b ∷ bs) = tag_after p bs

abbrev pub tag_at : ℕ → List Block → List ℕ
tag_at zero bs = zeros
tag_at (suc p) bs = tag_after p bs
