-- What is promised of the gateway's answers over bytes, for any row within the limits whose metadata is held. The one
-- exception is a clash: two different messages of equal digest, one hashed in checking what was sent, the other in
-- labelling the row.
-- Assumes nothing.
use Rattle.std.specs.Prelude.{ℕ, ◌≤◌, ◌≡◌, ◌⊎◌, ◌↔◌, List, length, Ok, Err}
use Rattle.refusals.specs.declared.Refusal.TheVariants.{NotNeighbours, Repeated}
use Rattle.sha256.specs.Hash.{sha256}
use Rattle.skiplist.specs.Label.{labelled}
use Rattle.skiplist.specs.Messages.{tree_messages}
use Rattle.skiplist.specs.Clash.{Clash}
use Rattle.skiplist.specs.Blocks.{Block, WithinLimits, root, way_to, metadata_of, tag_at}
use Rattle.skiplist.specs.Commands.{InRange, edited, spot, first_at}
use Rattle.commands.specs.declared.Metadata.{Metadata}
use Rattle.commands.specs.declared.Operation.TheVariants.{Delete}
use Rattle.commands.specs.declared.Command.{Command}
use Rattle.commands.specs.Meaning.{held_side, metadata_of_side, meaning}
use Rattle.commands.specs.Again.{Again}
use Rattle.proofbytes.specs.Layout.{most_entries}
use Rattle.proofbytes.specs.Writing.{proof_bytes}
use Rattle.gateway.specs.Gateway.{gateway_of, accepted_of}
use Rattle.gateway.specs.Hashing.{gateway_messages}

abbrev pub SomeClash : Metadata → Command → List ℕ → List ℕ → List Block → Type 0
SomeClash m k first second bs = Clash sha256 (gateway_messages m k first second) (tree_messages sha256 (root bs))

-- DEMAND 3: an accepted answer has the tag at the position and the metadata of the edited row labelled afresh
abbrev pub Demand3 : Type 0
Demand3 = (m : Metadata) (k : Command) (first second : List ℕ) (bs : List Block) → WithinLimits bs → held_side m
    ≡ metadata_of sha256 bs
    → (gateway_of m k first second).verdict ≡ Ok tt
    → SomeClash m k first second bs
    ⊎ ((held_side (gateway_of m k first second).metadata ≡ metadata_of sha256 (edited (meaning k) bs))
    × ((gateway_of m k first second).tag ≡ tag_at (spot (meaning k)) bs))

-- "where it belongs to one, 10 comes only with an equal-digest pair"
abbrev pub NeighboursMeet : Type 0
NeighboursMeet = (m : Metadata) (k : Command) (first second : List ℕ) (bs : List Block) → WithinLimits bs
    → held_side m ≡ metadata_of sha256 bs
    → (gateway_of m k first second).verdict ≡ Err NotNeighbours → SomeClash m k first second bs

-- ask 4, with any proof: what is refused with 14 comes again, and what is accepted does not
abbrev pub RepeatsStand : Type 0
RepeatsStand = (m : Metadata) (k : Command) (first second : List ℕ) (bs : List Block) → WithinLimits bs
    → held_side m ≡ metadata_of sha256 bs
    → (gateway_of m k first second).verdict ≡ Err Repeated → SomeClash m k first second bs ⊎ Again bs k

abbrev pub AcceptedAnew : Type 0
AcceptedAnew = (m : Metadata) (k : Command) (first second : List ℕ) (bs : List Block) → WithinLimits bs
    → held_side m ≡ metadata_of sha256 bs
    → (gateway_of m k first second).verdict ≡ Ok tt → SomeClash m k first second bs ⊎ (Again bs k → ⊥)

-- the honest proof for a position: the way to it, written as bytes
abbrev pub proof_for : ℕ → List Block → List ℕ
proof_for p bs = proof_bytes (labelled sha256 (way_to p bs))

-- DEMAND 2, the gateway's half: honest proofs are accepted, save where the tag comes again, and the answer is the edited row's. A
-- path of more than 200 entries has no proof.
abbrev pub HonestAccepted : Type 0
HonestAccepted = (m : Metadata) (k : Command) (first second : List ℕ) (bs : List Block) → WithinLimits bs
    → InRange (meaning k) (length bs) → (Again bs k → ⊥)
    → held_side m ≡ metadata_of sha256 bs
    → first ≡ proof_for (first_at (meaning k)) bs → length (way_to (first_at (meaning k)) bs).entries ≤ most_entries
    → (k.operation ≡ Delete → (second ≡ proof_for k.position bs)
    × (length (way_to k.position bs).entries ≤ most_entries))
    → gateway_of m k first second ≡ accepted_of (tag_at (spot (meaning k)) bs)
    (metadata_of_side (metadata_of sha256 (edited (meaning k) bs)))

-- ask 4: with the honest proof 14 is given exactly where the tag comes again
abbrev pub HonestRepeats : Type 0
HonestRepeats = (m : Metadata) (k : Command) (first second : List ℕ) (bs : List Block) → WithinLimits bs
    → held_side m ≡ metadata_of sha256 bs
    → first ≡ proof_for (first_at (meaning k)) bs → length (way_to (first_at (meaning k)) bs).entries ≤ most_entries
    → ((gateway_of m k first second).verdict ≡ Err Repeated) ↔ Again bs k
