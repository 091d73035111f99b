-- ASK 5's promise: "If an archive's times never fall before, they never fall after an accepted filing, or an equal-digest pair exists as
-- in demand 3, or a block sent and a different one in the archive share a tag." And the way back: the place that the store finds from its
-- own times is accepted.
-- Assumes nothing.
use Rattle.std.specs.Prelude.{ℕ, suc, ◌+◌, ◌-◌, ◌≤◌, ◌<◌, ◌≡◌, ◌⊎◌, cond, List, [], ◌++◌, ltb, length, Ok}
use Rattle.refusals.specs.Order.{verdict_of, settled}
use Rattle.sha256.specs.Hash.{sha256}
use Rattle.skiplist.specs.Limits.{most_blocks, most_height}
use Rattle.skiplist.specs.Messages.{tree_messages}
use Rattle.skiplist.specs.Clash.{Clash}
use Rattle.skiplist.specs.Blocks.{Block, WithinLimits, root, way_to, metadata_of, tag_at}
use Rattle.skiplist.specs.Commands.{edited}
use Rattle.commands.specs.declared.Metadata.{Metadata}
use Rattle.commands.specs.Meaning.{held_side, metadata_of_side, meaning}
use Rattle.commands.specs.Again.{Again}
use Rattle.labels.specs.Tags.{most_readings}
use Rattle.proofbytes.specs.Layout.{most_entries}
use Rattle.gateway.specs.Gateway.{gateway_rules, accepted_of}
use Rattle.gateway.specs.Hashing.{one_messages, gateway_messages}
use Rattle.gateway.specs.Demand.{proof_for}
use Rattle.times.specs.Times.{NeverFall, put_after, place_for}
use Rattle.filer.specs.Filing.{Timed, Proposal, insertion, long_of, filed_of}
use Rattle.filer.specs.Archive.{Stand, times_of, block_after, NoneLong, needed, SharedTag}

-- what is hashed in checking the two proofs: nothing before 11 passes; the gateway's of Insert; the second proof's where there is a block
-- after p and all of Insert's checks have passed
abbrev pub filing_messages : Metadata → Proposal → List ℕ → List ℕ → List (List ℕ)
filing_messages m q first second =
    cond (long_of q.position m.count q.new.readings q.left.readings q.right.readings) []
    (gateway_messages m (insertion q) first []
    ++ settled (verdict_of (gateway_rules m (insertion q) first []))
    (cond (ltb q.position m.count) (one_messages second (q.position + 1) m) []) [])

-- the row and its blocks after the filing
abbrev pub row_with : Proposal → List Block → List Block
row_with q bs = edited (meaning (insertion q)) bs

abbrev pub blocks_with : Proposal → List Timed → List Timed
blocks_with q xs = put_after q.position q.new xs

-- WHAT AN ACCEPTED FILING MAKES
pub record Filed (m : Metadata) (q : Proposal) (first second : List ℕ) (bs : List Block) (xs : List Timed) : Type 0 where
  -- the times never fall, and are those of blocks whose tags stand in the new row
  pub times : NeverFall (times_of (blocks_with q xs))
  pub stand : Stand (blocks_with q xs) (row_with q bs)
  -- the place is the one that the store finds: no other fits
  pub place : q.position ≡ place_for (times_of xs) q.new.time
  -- the answer is that of demand 3
  pub metadata : held_side (filed_of m q first second).metadata ≡ metadata_of sha256 (row_with q bs)
  pub tag : (filed_of m q first second).tag ≡ tag_at q.position bs

abbrev pub TimesKept : Type 0
TimesKept = (m : Metadata) (q : Proposal) (first second : List ℕ) (bs : List Block) (xs : List Timed) → WithinLimits bs
    → held_side m ≡ metadata_of sha256 bs → Stand xs bs → NeverFall (times_of xs)
    → (filed_of m q first second).verdict ≡ Ok tt
    → Clash sha256 (filing_messages m q first second) (tree_messages sha256 (root bs))
    ⊎ (SharedTag (needed q (length bs)) xs ⊎ Filed m q first second bs xs)

-- WHAT AN HONEST STORE SHOWS: the place that it finds from its times, the blocks there and after it, and their proofs
pub record Honest (q : Proposal) (first second : List ℕ) (bs : List Block) (xs : List Timed) : Type 0 where
  pub place : q.position ≡ place_for (times_of xs) q.new.time
  pub left : (i : ℕ) → q.position ≡ suc i → q.left ≡ block_after i xs
  pub right : q.position < length bs → q.right ≡ block_after q.position xs
  pub proof : first ≡ proof_for q.position bs
  pub next_proof : q.position < length bs → second ≡ proof_for (q.position + 1) bs

-- which there always is
abbrev pub honestly : ℕ → Timed → List Timed → Proposal
honestly h new xs =
    let p = place_for (times_of xs) new.time in
    record { position = p; height = h; new = new; left = block_after (p - 1) xs; right = block_after p xs }

abbrev pub HonestShown : Type 0
HonestShown = (h : ℕ) (new : Timed) (bs : List Block) (xs : List Timed)
    → Honest (honestly h new xs) (proof_for (honestly h new xs).position bs) (proof_for ((honestly h new xs).position + 1) bs) bs xs

-- a path of more than 200 entries has no proof
abbrev pub Provable : ℕ → List Block → Type 0
Provable p bs = length (way_to p bs).entries ≤ most_entries

-- and it is accepted, unless the block comes again
abbrev pub PlaceAccepted : Type 0
PlaceAccepted = (m : Metadata) (q : Proposal) (first second : List ℕ) (bs : List Block) (xs : List Timed) → WithinLimits bs
    → held_side m ≡ metadata_of sha256 bs → Stand xs bs → NoneLong xs → length q.new.readings ≤ most_readings
    → q.height ≤ most_height → length bs < most_blocks → (Again bs (insertion q) → ⊥)
    → Honest q first second bs xs → Provable q.position bs → (q.position < length bs → Provable (q.position + 1) bs)
    → filed_of m q first second ≡ accepted_of (tag_at q.position bs) (metadata_of_side (metadata_of sha256 (row_with q bs)))
