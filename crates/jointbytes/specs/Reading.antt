-- SPELLING OUT: what the bytes of a joint proof are read as, whatever they are. Its i-th piece, counted from 0, is the shared number, the
-- remaining entries and the stop of one proof. Whether the bytes keep the rules is `Form`'s.
-- Assumes nothing.
use Rattle.std.specs.Prelude.{ℕ, zero, suc, ◌+◌, ◌*◌, Bool, cond, ◌&&◌, List, [], ◌∷◌, ◌++◌, leb, ltb, eqb, length, get_or, take}
use Rattle.octets.specs.Numbers.{number_at}
use Rattle.octets.specs.Runs.{part}
use Rattle.proofbytes.specs.Layout.{entry_size, stop_size, stop_kind}
use Rattle.jointbytes.specs.Layout.{joint_header, shared_bytes}
use Rattle.jointbytes.specs.Spelling.{Raw}
use Rattle.jointbytes.specs.declared.read.Piece.{Piece}

-- how many records from place a on are entries: a record of another kind, or one that does not end within the bytes, ends them. No more
-- than `most` are counted
unfoldable pub ahead : ℕ → List ℕ → ℕ → ℕ
ahead zero s a = 0
ahead (suc most) s a =
    cond (leb (a + entry_size) (length s) && ltb (get_or s a 0) stop_kind) (suc (ahead most s (a + entry_size))) 0

-- a piece whose entries begin at a place
abbrev pub piece_at : List ℕ → ℕ → ℕ → Piece
piece_at s shared a = record { shared = shared; from = a; own = ahead (length s) s a }

-- where its stop begins, and where it ends
abbrev pub stop_at : Piece → ℕ
stop_at q = q.from + entry_size * q.own

abbrev pub end_of : Piece → ℕ
end_of q = stop_at q + stop_size

-- the first piece shares nothing and has no shared number; each later one begins where the one before ends
abbrev pub next_of : List ℕ → Piece → Piece
next_of s q = piece_at s (number_at shared_bytes s (end_of q)) (end_of q + shared_bytes)

unfoldable pub piece_of : List ℕ → ℕ → Piece
piece_of s zero = piece_at s 0 joint_header
piece_of s (suc i) = next_of s (piece_of s i)

-- after a piece's entries its stop stands whole: no "kind over 2", no "bytes short"
unfoldable pub stop_stands : List ℕ → Piece → Bool
stop_stands s q = leb (end_of q) (length s) && eqb (get_or s (stop_at q) 0) stop_kind

-- n records from place a on
unfoldable pub records_from : List ℕ → ℕ → ℕ → List (List ℕ)
records_from s a zero = []
records_from s a (suc n) = part s a entry_size ∷ records_from s (a + entry_size) n

-- the i-th proof: the shared entries of the one before, the remaining ones, the stop
unfoldable pub spelled_entries : List ℕ → ℕ → List (List ℕ)
spelled_entries s zero = records_from s (piece_of s 0).from (piece_of s 0).own
spelled_entries s (suc i) =
    take (piece_of s (suc i)).shared (spelled_entries s i)
    ++ records_from s (piece_of s (suc i)).from (piece_of s (suc i)).own

abbrev pub proof_of : List ℕ → ℕ → Raw
proof_of s i = record { entries = spelled_entries s i; stop = part s (stop_at (piece_of s i)) stop_size }
