-- "Row of five. Blocks A to E, heights 0, 2, 0, 1, 2. Marked cases, to be proved": P1 to P10 of document 01 in a single
-- table, with any tags.
-- Assumes nothing.
use Rattle.std.specs.Prelude.{ℕ, ◌≡◌, List, [], ◌∷◌, map, length}
use Rattle.skiplist.specs.Tree.{Tree, empty, leaf, node, rank}
use Rattle.skiplist.specs.Entry.{Entry, down, right, pass}
use Rattle.skiplist.specs.Blocks.{Block, root, way_to}
use Rattle.skiplist.specs.Commands.{insert, delete, edited}
use Rattle.labels.specs.Heights.{height_of}
use Rattle.proofbytes.specs.Layout.{down_kind, right_kind, proof_size}

-- a root's level, its lower rank and its right rank
abbrev pub level_of : Tree → ℕ
level_of empty = 0
level_of (leaf c r) = 0
level_of (node l a b) = l

abbrev pub lower_rank : Tree → ℕ
lower_rank empty = 0
lower_rank (leaf c r) = 0
lower_rank (node l a b) = rank a

abbrev pub right_rank : Tree → ℕ
right_rank empty = 0
right_rank (leaf c r) = rank r
right_rank (node l a b) = rank b

-- an entry's kind, its level, and its rank or own
abbrev pub Shape : Type 0
Shape = ℕ × ℕ × ℕ

abbrev pub shape : Entry Tree → Shape
shape (down l s) = (down_kind, l, rank s)
shape (right l s) = (right_kind, l, rank s)
shape (pass c) = (right_kind, 0, c.own)

abbrev pub shapes : ℕ → List Block → List Shape
shapes p bs = map shape (way_to p bs).entries

abbrev pub entry_count : ℕ → List Block → ℕ
entry_count p bs = length (way_to p bs).entries

abbrev pub block : ℕ → List ℕ → Block
block h t = record { height = h; tag = t }

module _ (A B C D E X : List ℕ) where
  abbrev pub five : List Block
  five = block 0 A ∷ block 2 B ∷ block 0 C ∷ block 1 D ∷ block 2 E ∷ []

  -- "insert X of height 1 after 3"
  abbrev pub six : List Block
  six = edited (insert 3 (block 1 X)) five

  pub record RowOfFive : Type 0 where
    -- "P1 root level 2, rank 5, lower rank 1."
    pub p1 : (level_of (root five) ≡ 2) × (rank (root five) ≡ 5) × (lower_rank (root five) ≡ 1)
    -- "P2 entries for positions 1 to 5: 2, 3, 4, 3, 2."
    pub p2 : map (λ p. entry_count p five) (1 ∷ 2 ∷ 3 ∷ 4 ∷ 5 ∷ []) ≡ 2 ∷ 3 ∷ 4 ∷ 3 ∷ 2 ∷ []
    -- "P3 position 3: right 2 (rank 1), down 2 (1), down 1 (1), right 0 (own 1), stop."
    pub p3 : (shapes 3 five ≡ (1, 2, 1) ∷ (0, 2, 1) ∷ (0, 1, 1) ∷ (1, 0, 1) ∷ []) × ((way_to 3 five).item.third ≡ C)
    -- "P4 its proof has 229 bytes."
    pub p4 : proof_size (entry_count 3 five) ≡ 229
    -- "P5 insert X of height 1 after 3: X at position 4 has the path right 2 (1), down 2 (1), right 1 (2), down 1
    -- (1)."
    pub p5 : (shapes 4 six ≡ (1, 2, 1) ∷ (0, 2, 1) ∷ (1, 1, 2) ∷ (0, 1, 1) ∷ []) × ((way_to 4 six).item.third ≡ X)
    -- "P6 then E, position 6, has 2 entries and 153 bytes."
    pub p6 : ((way_to 6 six).item.third ≡ E) × (entry_count 6 six ≡ 2) × (proof_size (entry_count 6 six) ≡ 153)
    -- "P7 delete B from the five: root lower rank 3, right rank 1."
    pub p7 : (lower_rank (root (edited (delete 2) five)) ≡ 3) × (right_rank (root (edited (delete 2) five)) ≡ 1)
    -- "P8 delete A: root lower rank 0."
    pub p8 : lower_rank (root (edited (delete 1) five)) ≡ 0
    -- "P9 empty archive: position 0 has no entry, 77 bytes."
    pub p9 : (entry_count 0 [] ≡ 0) × (proof_size (entry_count 0 []) ≡ 77)
    -- "P10 the five coin words above": "Words 1, 6, 8 give 0, 1, 3; words 32,768 and 0 both give 15."
    pub p10 : map height_of (1 ∷ 6 ∷ 8 ∷ 32768 ∷ 0 ∷ []) ≡ 0 ∷ 1 ∷ 3 ∷ 15 ∷ 15 ∷ []
