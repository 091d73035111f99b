-- DEMAND 2: "Digests are those of FIPS 180-4 SHA-256, and labels those of the rank hashing scheme .. For every archive
-- within the limits, the store writes the one proof and leaves the one edited image that document 01 fixes; that proof
-- is accepted by the gateway; a refusal comes exactly where document 01 puts it." What is served is one run of all the
-- calls, with SHA-256: check of the image, prove of the positions that the command needs, the gateway's check of the
-- bytes written, apply, and check of the image that it leaves. Ask 4: "Demand 2's honest proofs are accepted except for this", a tag
-- that comes again.
-- Assumes nothing.
use Rattle.std.specs.Prelude.{ℕ, ◌+◌, ◌≤◌, ◌≡◌, List, ◌++◌, length, Ok}
use Rattle.octets.specs.Runs.{patch, part}
use Rattle.sha256.specs.Hash.{sha256}
use Rattle.sha256.specs.Answer.{longest, digest_of}
use Rattle.skiplist.specs.Label.{labelled}
use Rattle.skiplist.specs.Limits.{digest_bytes}
use Rattle.skiplist.specs.Blocks.{Block, WithinLimits, way_to, tag_at}
use Rattle.skiplist.specs.Commands.{InRange, edited, first_at}
use Rattle.commands.specs.declared.Operation.TheVariants.{Delete}
use Rattle.commands.specs.declared.Command.{Command}
use Rattle.commands.specs.Meaning.{meaning}
use Rattle.commands.specs.Again.{Again}
use Rattle.archive.specs.Form.{image_bytes, image_of}
use Rattle.archive.specs.Writing.{spare_after}
use Rattle.proofbytes.specs.Layout.{most_entries, proof_size}
use Rattle.proofbytes.specs.Writing.{proof_bytes}
use Rattle.store.specs.Answers.{check_of, prove_of, buffer_after, apply_of, image_after}
use Rattle.gateway.specs.declared.Answer.{Answer}
use Rattle.gateway.specs.Gateway.{gateway_of}
use Rattle.demands.specs.Placed.{Placed}
use Rattle.demands.specs.ThirdDemand.{held}

-- "k, the entries in the path", and the one proof of position p
abbrev pub entry_count : List Block → ℕ → ℕ
entry_count bs p = length (way_to p bs).entries

abbrev pub the_proof : List Block → ℕ → List ℕ
the_proof bs p = proof_bytes (labelled sha256 (way_to p bs))

-- a lent buffer with room, from a place on, for the proof of p, whose path has at most 200 entries
pub record Room (bs : List Block) (p : ℕ) (lent : List ℕ) (at : ℕ) : Type 0 where
  pub few : entry_count bs p ≤ most_entries
  pub fits : at + proof_size (entry_count bs p) ≤ length lent

-- prove of p answers and leaves what document 01 fixes
pub record Proven (bs : List Block) (b : List ℕ) (p : ℕ) (lent : List ℕ) (at : ℕ) : Type 0 where
  pub answer : prove_of b p (length lent) at
      ≡ record { verdict = Ok tt; length = proof_size (entry_count bs p); entries = entry_count bs p }
  pub buffer : buffer_after b p lent at ≡ patch lent at (the_proof bs p)
  pub proof : part (buffer_after b p lent at) at (prove_of b p (length lent) at).length ≡ the_proof bs p

-- the row bs, its image with spare bytes after it in a lent buffer, a command in range that is no repeat, room for the edited image,
-- and buffers for the proofs that it needs: one, and for Delete a second
pub record Setting (bs : List Block) (spare : List ℕ) (k : Command) (lent : List ℕ) (at : ℕ) (lent' : List ℕ) (at' : ℕ)
    : Type 0 where
  pub limits : WithinLimits bs
  pub range : InRange (meaning k) (length bs)
  pub anew : Again bs k → ⊥
  pub tag : length k.tag ≡ digest_bytes
  pub image : image_bytes (length (edited (meaning k) bs)) ≤ length (image_of bs ++ spare)
  pub first : Room bs (first_at (meaning k)) lent at
  pub second : k.operation ≡ Delete → Room bs k.position lent' at'

module _ (bs : List Block) (spare : List ℕ) (k : Command) (lent : List ℕ) (at : ℕ) (lent' : List ℕ) (at' : ℕ) where
  abbrev pub image : List ℕ
  image = image_of bs ++ spare

  -- the bytes that prove left for position p
  abbrev pub sent : ℕ → List ℕ → ℕ → List ℕ
  sent p x i = part (buffer_after image p x i) i (prove_of image p (length x) i).length

  -- the gateway, holding what check answers of the image, on the first proof's bytes and others
  abbrev pub gateway_answers : List ℕ → Answer
  gateway_answers other = gateway_of (check_of image).metadata k (sent (first_at (meaning k)) lent at) other

  pub record Served (other : List ℕ) : Type 0 where
    -- the gateway is given what check answers: the row's count and root label
    pub checked : check_of image ≡ record { verdict = Ok tt; metadata = held bs }
    -- "the store writes the one proof"
    pub first : Proven bs image (first_at (meaning k)) lent at
    pub second : k.operation ≡ Delete → Proven bs image k.position lent' at'
    -- "that proof is accepted by the gateway", and the tag at the position reported
    pub accepted : (gateway_answers other).verdict ≡ Ok tt
    pub tag : (gateway_answers other).tag ≡ tag_at k.position bs
    -- "leaves the one edited image"
    pub applied : apply_of image k ≡ record { verdict = Ok tt; count = length (edited (meaning k) bs) }
    pub edited_image : image_after image k
        ≡ image_of (edited (meaning k) bs) ++ spare_after (length bs) (length (edited (meaning k) bs)) spare
    -- check of it answers what the gateway worked out: the edited row's metadata, labelled afresh
    pub metadata : check_of (image_after image k) ≡ record { verdict = Ok tt; metadata = (gateway_answers other).metadata }
    pub afresh : (gateway_answers other).metadata ≡ held (edited (meaning k) bs)

  -- for Delete the other bytes are those of the second proof; with another command they are any
  abbrev pub Serves : Type 0
  Serves = Setting bs spare k lent at lent' at' → (other : List ℕ)
      → (k.operation ≡ Delete → other ≡ sent k.position lent' at') → Served other

pub record SecondDemand : Type 0 where
  pub digested : (m : List ℕ) → length m ≤ longest → digest_of m ≡ record { verdict = Ok tt; bytes = sha256 m }
  pub served : (bs : List Block) (spare : List ℕ) (k : Command) (lent : List ℕ) (at : ℕ) (lent' : List ℕ) (at' : ℕ)
      → Serves bs spare k lent at lent' at'
  pub placed : Placed
