-- What a proof's records are, whatever else is in them: every one of its own length, an entry of a kind below the stop's, the stop of the
-- stop's. And the proofs that a joint proof is spelled out as.
-- Assumes nothing.
use Rattle.std.specs.Prelude.{ℕ, zero, suc, ◌<◌, ◌≡◌, List, [], ◌∷◌, length, get_or}
use Rattle.proofbytes.specs.Layout.{entry_size, stop_size, stop_kind}
use Rattle.jointbytes.specs.Spelling.{Raw}
use Rattle.jointbytes.specs.Reading.{proof_of}

abbrev pub EntryRecord : List ℕ → Type 0
EntryRecord x = (length x ≡ entry_size) × (get_or x 0 0 < stop_kind)

abbrev pub EntryRecords : List (List ℕ) → Type 0
EntryRecords [] = Unit {0}
EntryRecords (x ∷ xs) = EntryRecord x × EntryRecords xs

-- "the number of leading entries shared ... in two bytes": no proof has more entries than two bytes tell
pub record Proper (r : Raw) : Type 0 where
  pub entries : EntryRecords r.entries
  pub few : length r.entries < 65536
  pub stop_size_is : length r.stop ≡ stop_size
  pub stop_kind_holds : get_or r.stop 0 0 ≡ stop_kind

abbrev pub AllProper : List Raw → Type 0
AllProper [] = Unit {0}
AllProper (r ∷ rs) = Proper r × AllProper rs

-- n proofs from the i-th on
unfoldable pub proofs_of : List ℕ → ℕ → ℕ → List Raw
proofs_of s i zero = []
proofs_of s i (suc n) = proof_of s i ∷ proofs_of s (suc i) n
