-- The joint proof of positions of a row: document 01's ways to them, joined.
-- Assumes nothing.
use Rattle.std.specs.Prelude.{ℕ, ◌≤◌, List, [], ◌∷◌, map, length}
use Rattle.sha256.specs.Hash.{sha256}
use Rattle.skiplist.specs.Label.{labelled}
use Rattle.skiplist.specs.Blocks.{Block, way_to}
use Rattle.proofbytes.specs.Layout.{most_entries}
use Rattle.jointbytes.specs.Spelling.{Raw, raw_of, joint_bytes}

-- the proof of position p, as its records
abbrev pub raw_in : List Block → ℕ → Raw
raw_in bs p = raw_of (labelled sha256 (way_to p bs))

abbrev pub joint_for : List ℕ → List Block → List ℕ
joint_for ps bs = joint_bytes (map (raw_in bs) ps)

-- every one of the positions has a proof: no path has more than 200 entries
abbrev pub AllShort : List ℕ → List Block → Type 0
AllShort [] bs = Unit {0}
AllShort (p ∷ ps) bs = (length (way_to p bs).entries ≤ most_entries) × AllShort ps bs
