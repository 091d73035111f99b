-- ASK 3, the morning check: "one reply for a whole morning check". The form, spelling out and joining; the store's joint proof of a row's
-- positions; and what the gateway makes of it.
-- Assumes nothing.
use Rattle.std.specs.Prelude.{ℕ, ◌+◌, ◌≤◌, ◌<◌, ◌≡◌, true, List, ◌∷◌, ◌++◌, length, get_or, Ok}
use Rattle.octets.specs.Numbers.{Bytes}
use Rattle.octets.specs.Runs.{patch, part}
use Rattle.skiplist.specs.Blocks.{Block, WithinLimits}
use Rattle.archive.specs.Form.{image_of}
use Rattle.store.specs.Answers.{check_of}
use Rattle.jointbytes.specs.Positions.{is_set, within}
use Rattle.jointbytes.specs.Spelling.{Raw, joint_bytes}
use Rattle.jointbytes.specs.Proper.{AllProper, proofs_of}
use Rattle.jointbytes.specs.Form.{joint_fits}
use Rattle.jointbytes.specs.Paths.{joint_for, AllShort}
use Rattle.jointstore.specs.Answers as jointstore
use Rattle.jointgateway.specs.Joint.{proof_at, no_tags, joint_of}
use Rattle.jointgateway.specs.Demand.{AcceptedExactly, tags_at}
use Rattle.demands.specs.SecondDemand.{the_proof}
use Rattle.demands.specs.ThirdDemand.{held}

-- a set of positions of the row bs, each with a proof, and a lent buffer with room for the joint proof from a place on
pub record Asked (bs : List Block) (ps lent : List ℕ) (at : ℕ) : Type 0 where
  pub limits : WithinLimits bs
  pub set : is_set ps ≡ true
  pub inside : within (length bs) ps ≡ true
  pub short : AllShort ps bs
  pub fits : at + length (joint_for ps bs) ≤ length lent

module _ (bs : List Block) (spare ps lent : List ℕ) (at : ℕ) where
  abbrev pub image : List ℕ
  image = image_of bs ++ spare

  -- the bytes that prove left
  abbrev pub sent : List ℕ
  sent = part (jointstore.buffer_after image ps lent at) at (jointstore.joint_of image ps (length lent) at).length

  pub record Answered : Type 0 where
    -- "the store's bytes are the one joint proof"
    pub answer : jointstore.joint_of image ps (length lent) at
        ≡ record { verdict = Ok tt; length = length (joint_for ps bs); entries = 0 }
    pub buffer : jointstore.buffer_after image ps lent at ≡ patch lent at (joint_for ps bs)
    pub joint : sent ≡ joint_for ps bs
    -- spelled out it is "exactly the single proofs"
    pub spelled : (i : ℕ) → i < length ps → proof_at sent i ≡ the_proof bs (get_or ps i 0)
    -- the gateway, holding what check answers of the image, accepts it and reports every tag
    pub accepted : joint_of (check_of image).metadata ps sent
        ≡ record { verdict = Ok tt; number = length ps; tags = patch no_tags 0 (tags_at ps bs); metadata = held bs }

pub record MorningCheck : Type 0 where
  -- "A well-formed joint proof is accepted exactly when every spelled-out proof is"
  pub exactly : AcceptedExactly
  -- spelling out and joining are inverse: there is one joint proof of given proofs
  pub spelled : (r : Raw) (rs : List Raw) → AllProper (r ∷ rs)
      → proofs_of (joint_bytes (r ∷ rs)) 0 (length (r ∷ rs)) ≡ r ∷ rs
  pub joined : (s : List ℕ) → Bytes s → (m : ℕ) → 1 ≤ m → joint_fits m s ≡ true → joint_bytes (proofs_of s 0 m) ≡ s
  pub answered : (bs : List Block) (spare ps lent : List ℕ) (at : ℕ) → Asked bs ps lent at → Answered bs spare ps lent at
