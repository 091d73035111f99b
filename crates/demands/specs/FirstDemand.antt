-- DEMAND 1: "Store side and gateway side take every image, proof, position and command, come to an end, and refuse bad
-- ones by number without asking the caller to have checked. A refusal hands back the metadata it was given and changes
-- no byte lent to it."
-- That every call takes everything and ends is what its contract gives: no public call has a `requires`, and a function
-- that is proved ends. Here is the rest, of every outcome that satisfies a call's pledge: "A refusal returns the given
-- metadata (count 0 and a zero label where the call was given none, or saved bytes were refused), a zero tag, and
-- length, k and count 0; no lent byte changes." A buffer that is lent for reading alone is not named: no code can write
-- to it.
-- Assumes nothing.
use Rattle.std.specs.Prelude.{ℕ, ◌≡◌, false, List, [], ◌∷◌, length, replicate}
use Rattle.sha256.specs.declared.Digested.{Digested}
use Rattle.sha256.specs.Answer.{Answers}
use Rattle.skiplist.specs.Blocks.{zeros}
use Rattle.labels.specs.declared.Tagged.{Tagged}
use Rattle.labels.specs.declared.Matched.{Matched}
use Rattle.labels.specs.Tags.{Tags, Matches}
use Rattle.commands.specs.declared.Metadata.{Metadata}
use Rattle.commands.specs.declared.Command.{Command}
use Rattle.commands.specs.Meaning.{no_metadata}
use Rattle.store.specs.declared.Checked.{Checked}
use Rattle.store.specs.declared.Proved.{Proved}
use Rattle.store.specs.declared.Applied.{Applied}
use Rattle.store.specs.Pledges as store
use Rattle.gateway.specs.declared.Answer.{Answer}
use Rattle.gateway.specs.declared.saved.Saved.{Saved}
use Rattle.gateway.specs.declared.saved.Loaded.{Loaded}
use Rattle.gateway.specs.Saving.{saved_size, Saves, Loads}
use Rattle.gateway.specs.Gateway as gateway
use Rattle.shapes.specs.declared.Shaped.{Shaped}
use Rattle.shapes.specs.Shape.{Shapes}
use Rattle.jointstore.specs.Pledges as jointstore
use Rattle.jointgateway.specs.declared.Answer as jointgateway
use Rattle.jointgateway.specs.Joint as joint
use Rattle.filer.specs.Filing.{Proposal, Files}
use Rattle.demands.specs.Words.{gateway_numbers, filer_numbers, joint_numbers, Refuses}

pub record FirstDemand : Type 0 where
  -- digest, and digest_joined, whose message m is its two parts joined
  pub digest : (m : List ℕ) (r : Digested) → Answers m r → Refuses r.verdict (11 ∷ []) (r.bytes ≡ zeros)
  pub tag : (time : ℕ) (readings : List ℕ) (r : Tagged) → Tags time readings r
      → Refuses r.verdict (11 ∷ []) (r.tag ≡ zeros)
  pub match : (tag : List ℕ) (time : ℕ) (readings : List ℕ) (r : Matched) → Matches tag time readings r
      → Refuses r.verdict (11 ∷ []) (r.yes ≡ false)
  pub save : (m : Metadata) (r : Saved) → Saves m r
      → Refuses r.verdict (12 ∷ []) (r.bytes ≡ replicate saved_size 0)
  pub load : (s : List ℕ) (r : Loaded) → Loads s r → Refuses r.verdict (12 ∷ []) (r.metadata ≡ no_metadata)
  -- the store: check; prove, which leaves the proof's buffer; apply, which leaves the image's
  pub check : (b : List ℕ) (r : Checked) → store.Checks b r → Refuses r.verdict (1 ∷ []) (r.metadata ≡ no_metadata)
  pub prove : (b : List ℕ) (p : ℕ) (lent : List ℕ) (at : ℕ) (r : Proved) (after : List ℕ)
      → store.Proves b p lent at r after
      → Refuses r.verdict (1 ∷ 2 ∷ 6 ∷ 5 ∷ []) ((r.length ≡ 0) × (r.entries ≡ 0) × (after ≡ lent))
  pub apply : (b : List ℕ) (k : Command) (r : Applied) (after : List ℕ) → store.Applies b k r after
      → Refuses r.verdict (1 ∷ 2 ∷ 3 ∷ 4 ∷ 14 ∷ 5 ∷ []) ((r.count ≡ 0) × (after ≡ b))
  -- the shape of an image, into a buffer of numbers
  pub shape : (b lent : List ℕ) (r : Shaped) (after : List ℕ) → Shapes b lent r after
      → Refuses r.verdict (1 ∷ 5 ∷ []) ((r.blocks ≡ 0) × (after ≡ lent))
  -- the gateway's check of a command
  pub gateway : (m : Metadata) (k : Command) (first second : List ℕ) (r : Answer) → gateway.Checks m k first second r
      → Refuses r.verdict (gateway_numbers k.operation) ((r.tag ≡ zeros) × (r.metadata ≡ m))
  -- ask 3: the store's joint proof of a set of positions, and the gateway's check of one
  pub joint_prove : (b ps lent : List ℕ) (at : ℕ) (r : Proved) (after : List ℕ) → jointstore.Proves b ps lent at r after
      → Refuses r.verdict (1 ∷ 13 ∷ 2 ∷ 6 ∷ 5 ∷ []) ((r.length ≡ 0) × (r.entries ≡ 0) × (after ≡ lent))
  pub joint_check : (m : Metadata) (ps s : List ℕ) (r : jointgateway.Answer) → joint.Checks m ps s r
      → Refuses r.verdict (joint_numbers (length ps)) ((r.number ≡ 0) × (r.tags ≡ joint.no_tags) × (r.metadata ≡ m))
  -- ask 5: the late filer
  pub file : (m : Metadata) (q : Proposal) (first second : List ℕ) (r : Answer) → Files m q first second r
      → Refuses r.verdict filer_numbers ((r.tag ≡ zeros) × (r.metadata ≡ m))
