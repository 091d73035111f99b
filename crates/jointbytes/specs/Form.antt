-- THE FORM of a joint proof; bytes that break it are refused with 7, place 0: "version, length, number, a kind over 2, bytes short or
-- over, a shared number not the largest". It speaks of the records' kinds and lengths, and of which are the same.
-- Assumes nothing.
use Rattle.std.specs.Prelude.{ℕ, zero, suc, ◌+◌, ◌-◌, Bool, ◌&&◌, List, leb, eqb, length, get_or}
use Rattle.octets.specs.Numbers.{number_at}
use Rattle.jointbytes.specs.Layout.{joint_version, joint_length_bytes, joint_length_place, number_place, joint_header}
use Rattle.jointbytes.specs.Layout.{shared_bytes}
use Rattle.jointbytes.specs.Spelling.{common}
use Rattle.jointbytes.specs.Reading.{end_of, piece_of, stop_stands, spelled_entries}

-- "version, length, number" of the positions asked
unfoldable pub head_fits : ℕ → List ℕ → Bool
head_fits m s =
    leb joint_header (length s)
    && (eqb (get_or s 0 0) joint_version
    && (eqb (number_at joint_length_bytes s joint_length_place) (length s - number_place) && eqb (get_or s number_place 0) m))

-- "a shared number not the largest": that of the piece after the i-th; one above the entries before is not
unfoldable pub shares_most : List ℕ → ℕ → Bool
shares_most s i = eqb (piece_of s (suc i)).shared (common (spelled_entries s i) (spelled_entries s (suc i)))

-- n pieces after the i-th, and the bytes end with the last: "bytes short or over"
unfoldable pub later_fit : List ℕ → ℕ → ℕ → Bool
later_fit s i zero = eqb (end_of (piece_of s i)) (length s)
later_fit s i (suc n) =
    leb (end_of (piece_of s i) + shared_bytes) (length s)
    && (stop_stands s (piece_of s (suc i)) && (shares_most s i && later_fit s (suc i) n))

-- THE WHOLE: not 7 with place 0, for m positions, at least one
unfoldable pub joint_fits : ℕ → List ℕ → Bool
joint_fits m s = head_fits m s && (stop_stands s (piece_of s 0) && later_fit s 0 (m - 1))
