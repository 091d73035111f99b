-- THE GATEWAY'S ANSWER to a command with its proofs, as a function of all that it is given. "Gateway: 12, 2, 3, 4,
-- then 7, 8, 9 on the first proof, the same on the second, then 10"; ask 4: 14 "after 9".
-- Assumes nothing.
use Rattle.std.specs.Prelude.{ℕ, ◌≡◌, not, List, [], ◌∷◌, ◌++◌, ltb, Ok}
use Rattle.refusals.specs.declared.Which.TheVariants.{First, Second}
use Rattle.refusals.specs.declared.Refusal.TheVariants.{BadMetadata, NotNeighbours, Repeated}
use Rattle.refusals.specs.Order.{Rule, ◌when◌, verdict_of, settled, Verdict}
use Rattle.skiplist.specs.Limits.{most_blocks}
use Rattle.skiplist.specs.Edits.{replaced, inserted}
use Rattle.skiplist.specs.Equal.{side-discrete}
use Rattle.skiplist.specs.Meeting.{meets, remains}
use Rattle.skiplist.specs.Blocks.{zeros, block_item, column, shown}
use Rattle.skiplist.specs.Commands.{repeats_at, first_at, reported}
use Rattle.commands.specs.declared.Metadata.{Metadata}
use Rattle.commands.specs.declared.Operation.{Operation}
use Rattle.commands.specs.declared.Operation.TheVariants.{Read, Replace, Insert, Delete}
use Rattle.commands.specs.declared.Command.{Command}
use Rattle.commands.specs.Admission.{admission_rules}
use Rattle.commands.specs.Meaning.{metadata_of_side, meaning}
use Rattle.proofbytes.specs.Reading.{place_of}
use Rattle.gateway.specs.declared.Answer.{Answer}
use Rattle.gateway.specs.Checking.{𝓢, proof_rules}

-- after the first proof's: whether Insert repeats the tag at its place; Delete's second proof, for p, and the meeting of the two
abbrev pub later_rules : Operation → Metadata → ℕ → List ℕ → List ℕ → List ℕ → List Rule
later_rules Read m p tag first second = []
later_rules Replace m p tag first second = []
later_rules Insert m p tag first second = (Repeated when repeats_at p tag (shown (place_of first).item)) ∷ []
later_rules Delete m p tag first second =
    proof_rules Second second p m
    ++ ((NotNeighbours when not (meets 𝓢 side-discrete (place_of first) (place_of second))) ∷ [])

-- before a proof is looked at
abbrev pub opening_rules : Metadata → Command → List Rule
opening_rules m k = (BadMetadata when ltb most_blocks m.count) ∷ admission_rules k m.count

abbrev pub gateway_rules : Metadata → Command → List ℕ → List ℕ → List Rule
gateway_rules m k first second =
    opening_rules m k
    ++ (proof_rules First first (first_at (meaning k)) m ++ later_rules k.operation m k.position k.tag first second)

-- "The new metadata is always worked out from the proofs": of Replace, of Insert, of Delete
abbrev pub replaced_of : List ℕ → List ℕ → Metadata
replaced_of tag s = metadata_of_side (replaced 𝓢 (block_item tag) (place_of s))

abbrev pub inserted_of : ℕ → List ℕ → List ℕ → Metadata
inserted_of h tag s = metadata_of_side (inserted 𝓢 (column (record { height = h; tag = tag })) (place_of s))

abbrev pub remaining_of : List ℕ → List ℕ → Metadata
remaining_of first second = metadata_of_side (remains 𝓢 side-discrete (place_of first) (place_of second))

abbrev pub new_metadata : Operation → ℕ → List ℕ → Metadata → List ℕ → List ℕ → Metadata
new_metadata Read h tag m first second = m
new_metadata Replace h tag m first second = replaced_of tag first
new_metadata Insert h tag m first second = inserted_of h tag first
new_metadata Delete h tag m first second = remaining_of first second

-- "A refusal returns the given metadata .., a zero tag"
abbrev pub answered : Verdict → List ℕ → Metadata → Metadata → Answer
answered v tag new held = record { verdict = v; tag = settled v tag zeros; metadata = settled v new held }

-- an acceptance
abbrev pub accepted_of : List ℕ → Metadata → Answer
accepted_of tag m = record { verdict = Ok tt; tag = tag; metadata = m }

unfoldable pub gateway_of : Metadata → Command → List ℕ → List ℕ → Answer
gateway_of m k first second =
    answered (verdict_of (gateway_rules m k first second)) (reported (meaning k) (place_of first) (place_of second))
    (new_metadata k.operation k.height k.tag m first second) m

-- THE PLEDGE
pub record Checks (m : Metadata) (k : Command) (first second : List ℕ) (r : Answer) : Type 0 where
  pub verdict : r.verdict ≡ (gateway_of m k first second).verdict
  pub tag : r.tag ≡ (gateway_of m k first second).tag
  pub metadata : r.metadata ≡ (gateway_of m k first second).metadata
