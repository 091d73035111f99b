-- The check of ONE proof: bytes against the metadata held and the position wanted. Refusals 7, 8 and 9, with no word
-- of which proof it is.
-- Assumes nothing.
use Rattle.std.specs.Prelude.{ℕ, Bool, not, ◌&&◌, List, [], ◌∷◌, eqb}
use Rattle.octets.specs.Runs.{same}
use Rattle.refusals.specs.declared.Which.{Which}
use Rattle.refusals.specs.declared.Refusal.TheVariants.{BadProof, WrongPosition, WrongLabel}
use Rattle.refusals.specs.Order.{Rule, ◌when◌}
use Rattle.sha256.specs.Hash.{sha256}
use Rattle.skiplist.specs.Sides.{Sides}
use Rattle.skiplist.specs.Recompute.{whole, proved_position, proved_rank}
use Rattle.skiplist.specs.Find.{own_at}
use Rattle.skiplist.specs.Label.{Side, sides}
use Rattle.commands.specs.declared.Metadata.{Metadata}
use Rattle.proofbytes.specs.Reading.{place_of}
use Rattle.proofbytes.specs.Form.{well_formed}

abbrev pub 𝓢 : Sides Side
𝓢 = sides sha256

-- not 8: "proved position is not the one wanted, or stop's own is not 1 (0 for position 0)"
unfoldable pub proves : List ℕ → ℕ → Bool
proves s p = eqb (proved_position 𝓢 (place_of s)) p && eqb (place_of s).item.own (own_at p)

-- not 9: "proved rank is not the count, or recomputed root label is not the one held"
unfoldable pub ranked : List ℕ → Metadata → Bool
ranked s m = eqb (proved_rank 𝓢 (place_of s)) m.count

unfoldable pub rooted : List ℕ → Metadata → Bool
rooted s m = same (whole 𝓢 (place_of s)).label m.label

-- 7, 8, 9 of a proof, for position p against m
abbrev pub proof_rules : Which → List ℕ → ℕ → Metadata → List Rule
proof_rules which s p m =
    (BadProof which when not (well_formed s)) ∷
    (WrongPosition which when not (proves s p)) ∷
    (WrongLabel which when not (ranked s m && rooted s m)) ∷
    []
