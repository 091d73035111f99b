-- DEMAND 3: "Take any archive within the limits whose count and root label the gateway holds, any command, and any
-- proof, by any hand. If the gateway accepts, the tag it reports is the one at that position, and its new count and
-- label equal those of the edited archive labelled afresh. A deletion carries two proofs, and the same holds. The
-- single exception is two different messages with equal digest, one hashed by the gateway in checking what it was sent,
-- the other in labelling the archive before the edit." And where the metadata belongs to an archive, "10 comes only
-- with an equal-digest pair." The digest is SHA-256; the proofs are any bytes.
-- Assumes nothing.
use Rattle.std.specs.Prelude.{ℕ, ◌*◌, ◌<◌, ◌≡◌, ◌⊎◌, List, length, get_or, Ok, Err}
use Rattle.octets.specs.Runs.{part}
use Rattle.refusals.specs.declared.Refusal.TheVariants.{NotNeighbours}
use Rattle.sha256.specs.Hash.{sha256}
use Rattle.skiplist.specs.Limits.{digest_bytes}
use Rattle.skiplist.specs.Messages.{tree_messages}
use Rattle.skiplist.specs.Clash.{Clash}
use Rattle.skiplist.specs.Blocks.{Block, WithinLimits, root, metadata_of, tag_at}
use Rattle.skiplist.specs.Commands.{edited}
use Rattle.commands.specs.declared.Metadata.{Metadata}
use Rattle.commands.specs.declared.Command.{Command}
use Rattle.commands.specs.Meaning.{metadata_of_side, meaning}
use Rattle.gateway.specs.Gateway.{gateway_of}
use Rattle.gateway.specs.Hashing.{gateway_messages}
use Rattle.jointgateway.specs.Joint.{joint_of}
use Rattle.jointgateway.specs.Demand.{JointClash}

-- count and root label of a row, labelled afresh
abbrev pub held : List Block → Metadata
held bs = metadata_of_side (metadata_of sha256 bs)

-- the exception
abbrev pub Collision : List Block → Command → List ℕ → List ℕ → Type 0
Collision bs k first second =
    Clash sha256 (gateway_messages (held bs) k first second) (tree_messages sha256 (root bs))

-- what an accepted command answers
pub record Right (bs : List Block) (k : Command) (first second : List ℕ) : Type 0 where
  pub tag : (gateway_of (held bs) k first second).tag ≡ tag_at k.position bs
  pub metadata : (gateway_of (held bs) k first second).metadata ≡ held (edited (meaning k) bs)

pub record ThirdDemand : Type 0 where
  pub accepted : (bs : List Block) (k : Command) (first second : List ℕ) → WithinLimits bs
      → (gateway_of (held bs) k first second).verdict ≡ Ok tt → Collision bs k first second ⊎ Right bs k first second
  pub neighbours : (bs : List Block) (k : Command) (first second : List ℕ) → WithinLimits bs
      → (gateway_of (held bs) k first second).verdict ≡ Err NotNeighbours → Collision bs k first second
  -- ask 3, "demand 3 holds for each tag, stated once over the number of positions": the i-th tag is the one at the i-th position; the
  -- metadata stays
  pub joint : (bs : List Block) (ps s : List ℕ) → WithinLimits bs → (joint_of (held bs) ps s).verdict ≡ Ok tt → (i : ℕ) → i < length ps
      → JointClash (held bs) ps s bs
      ⊎ (part (joint_of (held bs) ps s).tags (digest_bytes * i) digest_bytes ≡ tag_at (get_or ps i 0) bs)
  pub joint_metadata : (bs : List Block) (ps s : List ℕ) → (joint_of (held bs) ps s).metadata ≡ held bs
