-- THE GATEWAY'S ANSWER to a joint proof, as a function of all that it is given: "13 .. after 12; then 2; in the gateway then 7 with place 0
-- for bad form, then the first refusal of the spelled-out proofs, with its place, 1 to 32".
-- Assumes nothing.
use Rattle.std.specs.Prelude.{ℕ, zero, suc, ◌≡◌, not, List, [], ◌∷◌, ◌++◌, ltb, length, replicate}
use Rattle.octets.specs.Runs.{patch}
use Rattle.refusals.specs.declared.Which.TheVariants.{Place}
use Rattle.refusals.specs.declared.Refusal.TheVariants.{BadMetadata, BadSet, BadPosition, BadProof}
use Rattle.refusals.specs.Order.{Rule, ◌when◌, verdict_of, settled, Verdict}
use Rattle.skiplist.specs.Limits.{most_blocks}
use Rattle.skiplist.specs.Blocks.{shown}
use Rattle.commands.specs.declared.Metadata.{Metadata}
use Rattle.proofbytes.specs.Reading.{place_of}
use Rattle.jointbytes.specs.Positions.{is_set, within}
use Rattle.jointbytes.specs.Spelling.{spelled}
use Rattle.jointbytes.specs.Reading.{proof_of}
use Rattle.jointbytes.specs.Form.{joint_fits}
use Rattle.gateway.specs.Checking.{proof_rules}
use Rattle.jointgateway.specs.declared.Answer.{Answer}

-- the i-th proof, counted from 0, spelled out
abbrev pub proof_at : List ℕ → ℕ → List ℕ
proof_at s i = spelled (proof_of s i)

-- before a spelled-out proof is looked at
abbrev pub opening_rules : Metadata → List ℕ → List ℕ → List Rule
opening_rules m ps s =
    (BadMetadata when ltb most_blocks m.count) ∷
    (BadSet when not (is_set ps)) ∷
    (BadPosition when not (within m.count ps)) ∷
    (BadProof (Place 0) when not (joint_fits (length ps) s)) ∷ []

-- 7, 8 and 9 of the proofs from the i-th on, for the positions ps: those of one before those of the next
unfoldable pub place_rules : List ℕ → Metadata → ℕ → List ℕ → List Rule
place_rules s m i [] = []
place_rules s m i (p ∷ ps) = proof_rules (Place (suc i)) (proof_at s i) p m ++ place_rules s m (suc i) ps

abbrev pub joint_rules : Metadata → List ℕ → List ℕ → List Rule
joint_rules m ps s = opening_rules m ps s ++ place_rules s m 0 ps

-- the tags at the stops of the first n proofs
unfoldable pub tags_of : List ℕ → ℕ → List ℕ
tags_of s zero = []
tags_of s (suc n) = tags_of s n ++ shown (place_of (proof_at s n)).item

-- room for 32 tags; what is not used is zero
abbrev pub no_tags : List ℕ
no_tags = replicate 1024 0

-- "A refusal returns the given metadata", and no tag
abbrev pub answered : Verdict → ℕ → List ℕ → Metadata → Answer
answered v n ts m =
    record {
      verdict = v;
      number = settled v n 0;
      tags = settled v (patch no_tags 0 ts) no_tags;
      metadata = m;
    }

unfoldable pub joint_of : Metadata → List ℕ → List ℕ → Answer
joint_of m ps s = answered (verdict_of (joint_rules m ps s)) (length ps) (tags_of s (length ps)) m

-- THE PLEDGE
pub record Checks (m : Metadata) (ps s : List ℕ) (r : Answer) : Type 0 where
  pub verdict : r.verdict ≡ (joint_of m ps s).verdict
  pub number : r.number ≡ (joint_of m ps s).number
  pub tags : r.tags ≡ (joint_of m ps s).tags
  pub metadata : r.metadata ≡ (joint_of m ps s).metadata
