-- What is promised of the gateway's answers to joint proofs, each stated once over the number of positions, for any row within the limits
-- whose metadata is held. The one exception is a clash: two different messages of equal digest, one hashed in checking what was sent, the
-- other in labelling the row.
-- Assumes nothing.
use Rattle.std.specs.Prelude.{ℕ, suc, ◌*◌, ◌<◌, ◌≡◌, ◌⊎◌, true, List, [], ◌∷◌, ◌++◌, length, get_or, Ok}
use Rattle.octets.specs.Runs.{patch, part}
use Rattle.refusals.specs.declared.Which.TheVariants.{Place}
use Rattle.refusals.specs.Order.{verdict_of, settled}
use Rattle.sha256.specs.Hash.{sha256}
use Rattle.skiplist.specs.Limits.{digest_bytes}
use Rattle.skiplist.specs.Messages.{tree_messages}
use Rattle.skiplist.specs.Clash.{Clash}
use Rattle.skiplist.specs.Blocks.{Block, WithinLimits, zeros, root, metadata_of, tag_at}
use Rattle.commands.specs.declared.Metadata.{Metadata}
use Rattle.commands.specs.declared.Operation.TheVariants.{Read}
use Rattle.commands.specs.declared.Command.{Command}
use Rattle.commands.specs.Meaning.{held_side}
use Rattle.jointbytes.specs.Positions.{is_set, within}
use Rattle.jointbytes.specs.Paths.{joint_for, AllShort}
use Rattle.gateway.specs.Checking.{proof_rules}
use Rattle.gateway.specs.Gateway.{gateway_of}
use Rattle.gateway.specs.Hashing.{one_messages}
use Rattle.gateway.specs.Demand.{proof_for}
use Rattle.jointgateway.specs.Joint.{proof_at, opening_rules, no_tags, joint_of}

-- "Read p": what a spelled-out proof is for
abbrev pub read_at : ℕ → Command
read_at p = record { operation = Read; position = p; height = 0; tag = zeros }

-- EACH PROOF AS A SINGLE ONE: the gateway accepts every spelled-out proof from the i-th on, for a Read of its position
abbrev pub EveryRead : Metadata → List ℕ → ℕ → List ℕ → Type 0
EveryRead m s i [] = Unit {0}
EveryRead m s i (p ∷ ps) = ((gateway_of m (read_at p) (proof_at s i) []).verdict ≡ Ok tt) × EveryRead m s (suc i) ps

-- a well-formed joint proof is accepted exactly when every spelled-out proof is
abbrev pub AcceptedExactly : Type 0
AcceptedExactly = (m : Metadata) (ps s : List ℕ) → verdict_of (opening_rules m ps s) ≡ Ok tt
    → ((joint_of m ps s).verdict ≡ Ok tt → EveryRead m s 0 ps) × (EveryRead m s 0 ps → (joint_of m ps s).verdict ≡ Ok tt)

-- WHAT IS HASHED, refusals included: of the proofs from the i-th on, each only where the ones before it passed. A message over shared
-- entries that one before has hashed stands here for each proof, though it is not hashed again
unfoldable pub messages_from : List ℕ → Metadata → ℕ → List ℕ → List (List ℕ)
messages_from s m i [] = []
messages_from s m i (p ∷ ps) =
    one_messages (proof_at s i) p m
    ++ settled (verdict_of (proof_rules (Place (suc i)) (proof_at s i) p m)) (messages_from s m (suc i) ps) []

abbrev pub joint_messages : Metadata → List ℕ → List ℕ → List (List ℕ)
joint_messages m ps s = settled (verdict_of (opening_rules m ps s)) (messages_from s m 0 ps) []

abbrev pub JointClash : Metadata → List ℕ → List ℕ → List Block → Type 0
JointClash m ps s bs = Clash sha256 (joint_messages m ps s) (tree_messages sha256 (root bs))

-- DEMAND 3: an accepted answer has at each place the tag at that place's position
abbrev pub JointDemand3 : Type 0
JointDemand3 = (m : Metadata) (ps s : List ℕ) (bs : List Block) → WithinLimits bs → held_side m ≡ metadata_of sha256 bs
    → (joint_of m ps s).verdict ≡ Ok tt → (i : ℕ) → i < length ps
    → JointClash m ps s bs ⊎ (part (joint_of m ps s).tags (digest_bytes * i) digest_bytes ≡ tag_at (get_or ps i 0) bs)

-- and the metadata held stays, accepted or refused
abbrev pub MetadataStays : Type 0
MetadataStays = (m : Metadata) (ps s : List ℕ) → (joint_of m ps s).metadata ≡ m

-- the tags at positions, in their order
unfoldable pub tags_at : List ℕ → List Block → List ℕ
tags_at [] bs = []
tags_at (p ∷ ps) bs = tag_at p bs ++ tags_at ps bs

-- spelling out the honest joint proof gives exactly the honest single proofs
abbrev pub Respells : Type 0
Respells = (ps : List ℕ) (bs : List Block) → WithinLimits bs → within (length bs) ps ≡ true → AllShort ps bs
    → (i : ℕ) → i < length ps → proof_at (joint_for ps bs) i ≡ proof_for (get_or ps i 0) bs

-- DEMAND 2, the gateway's half: honest joint proofs are accepted, with every position's tag
abbrev pub JointHonest : Type 0
JointHonest = (m : Metadata) (ps : List ℕ) (bs : List Block) → WithinLimits bs → is_set ps ≡ true
    → within (length bs) ps ≡ true → AllShort ps bs → held_side m ≡ metadata_of sha256 bs
    → joint_of m ps (joint_for ps bs)
    ≡ record { verdict = Ok tt; number = length ps; tags = patch no_tags 0 (tags_at ps bs); metadata = m }
