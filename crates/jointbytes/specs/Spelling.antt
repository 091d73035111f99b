-- Proofs, each as its records, and the one joint proof that they make: the inverse of spelling a joint proof out (Reading).
-- Assumes nothing.
use Rattle.std.specs.Prelude.{ℕ, suc, ◌+◌, cond, List, [], ◌∷◌, ◌++◌, map, length, drop}
use Rattle.octets.specs.Numbers.{be}
use Rattle.octets.specs.Runs.{same}
use Rattle.skiplist.specs.Entry.{Place}
use Rattle.skiplist.specs.Label.{Side}
use Rattle.proofbytes.specs.Writing.{header_bytes, entry_bytes, stop_bytes}
use Rattle.jointbytes.specs.Layout.{joint_version, joint_length_bytes, shared_bytes}

-- a proof without its header: its entries and its stop, as they are sent
pub record Raw : Type 0 where
  pub entries : List (List ℕ)
  pub stop : List ℕ

-- records one after the other
unfoldable pub joined : List (List ℕ) → List ℕ
joined [] = []
joined (x ∷ xs) = x ++ joined xs

-- the proof spelled out
abbrev pub spelled : Raw → List ℕ
spelled r = header_bytes (length r.entries) ++ (joined r.entries ++ r.stop)

-- a path's proof
abbrev pub raw_of : Place Side → Raw
raw_of z = record { entries = map entry_bytes z.entries; stop = stop_bytes z.item z.side }

-- "the number of leading entries shared": the largest
unfoldable pub common : List (List ℕ) → List (List ℕ) → ℕ
common [] ys = 0
common (x ∷ xs) [] = 0
common (x ∷ xs) (y ∷ ys) = cond (same x y) (suc (common xs ys)) 0

-- "then for each later one the number of leading entries shared with the one before, in two bytes, the rest, and its stop"
unfoldable pub later_bytes : Raw → List Raw → List ℕ
later_bytes q [] = []
later_bytes q (r ∷ rs) =
    be shared_bytes (common q.entries r.entries)
    ++ (joined (drop (common q.entries r.entries) r.entries) ++ (r.stop ++ later_bytes r rs))

-- "the first proof's entries and stop"
unfoldable pub body_bytes : List Raw → List ℕ
body_bytes [] = []
body_bytes (r ∷ rs) = joined r.entries ++ (r.stop ++ later_bytes r rs)

-- "version 1, length in four bytes, number of positions in one"
unfoldable pub joint_head : ℕ → ℕ → List ℕ
joint_head m rest = joint_version ∷ (be joint_length_bytes rest ++ (m ∷ []))

-- THE JOINT PROOF
unfoldable pub joint_bytes : List Raw → List ℕ
joint_bytes rs = joint_head (length rs) (1 + length (body_bytes rs)) ++ body_bytes rs
