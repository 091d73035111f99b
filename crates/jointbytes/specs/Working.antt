-- What the private functions hold: where an entry of a spelled-out proof stands, in pieces that are whole. No rule and no pledge cites these.
-- Assumes nothing.
use Rattle.std.specs.Prelude.{ℕ, zero, suc, ◌+◌, ◌≤◌, ◌≡◌, true, cond, List, leb, length}
use Rattle.jointbytes.specs.Layout.{shared_bytes}
use Rattle.jointbytes.specs.Reading.{end_of, piece_of, stop_stands, spelled_entries}
use Rattle.jointbytes.specs.declared.read.Piece.{Piece}

-- the piece that holds the entry with j entries before it: the last that shares no more than j
unfoldable pub holder_of : List ℕ → ℕ → ℕ → Piece
holder_of s zero j = piece_of s 0
holder_of s (suc i) j = cond (leb (piece_of s (suc i)).shared j) (piece_of s (suc i)) (holder_of s i j)

-- the pieces up to the i-th stand whole, and none shares more than there is
unfoldable pub Stands : List ℕ → ℕ → Type 0
Stands s zero = stop_stands s (piece_of s 0) ≡ true
Stands s (suc i) =
    Stands s i × (end_of (piece_of s i) + shared_bytes ≤ length s) × (stop_stands s (piece_of s (suc i)) ≡ true)
    × ((piece_of s (suc i)).shared ≤ length (spelled_entries s i))
