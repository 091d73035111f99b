-- THE PLEDGES of the exports: each is the call below it, part for part of the answer and byte for byte of what is lent.
-- Assumes nothing.
use Rattle.std.specs.Prelude.{ℕ, ◌≡◌, List, length}
use Rattle.sha256.specs.Answer.{digest_of}
use Rattle.labels.specs.Tags.{tag_of, match_of}
use Rattle.labels.specs.Heights.{height_of}
use Rattle.store.specs.Answers.{check_of, prove_of, buffer_after, apply_of, image_after}
use Rattle.shapes.specs.Shape.{shape_of, shape_after}
use Rattle.gateway.specs.Saving.{save_of, load_of}
use Rattle.gateway.specs.Gateway.{gateway_of}
use Rattle.times.specs.Times.{place_for}
use Rattle.filer.specs.Filing.{filed_of}
use Rattle.filer.specs.Filing.{proposed}
use Rattle.jointstore.specs.Answers as jointstore
use Rattle.jointgateway.specs.Joint as jointgateway
use Rattle.quaythistle.specs.declared.plain.QtDigest.{QtDigest}
use Rattle.quaythistle.specs.declared.plain.QtMetadata.{QtMetadata}
use Rattle.quaythistle.specs.declared.plain.QtCommand.{QtCommand}
use Rattle.quaythistle.specs.declared.plain.QtFiling.{QtFiling}
use Rattle.quaythistle.specs.declared.QtDigested.{QtDigested}
use Rattle.quaythistle.specs.declared.QtMatched.{QtMatched}
use Rattle.quaythistle.specs.declared.QtMetadataAnswer.{QtMetadataAnswer}
use Rattle.quaythistle.specs.declared.QtProved.{QtProved}
use Rattle.quaythistle.specs.declared.QtCounted.{QtCounted}
use Rattle.quaythistle.specs.declared.QtSaved.{QtSaved}
use Rattle.quaythistle.specs.declared.QtAnswer.{QtAnswer}
use Rattle.quaythistle.specs.declared.QtJointAnswer.{QtJointAnswer}
use Rattle.quaythistle.specs.Plain.{plain_verdict, plain_digest, held_metadata, shown_metadata, command_of, filing_of}

pub record Digests (message : List ℕ) (r : QtDigested) : Type 0 where
  pub verdict : r.verdict ≡ plain_verdict (digest_of message).verdict
  pub digest : r.digest ≡ plain_digest (digest_of message).bytes

pub record Tags (time : ℕ) (readings : List ℕ) (r : QtDigested) : Type 0 where
  pub verdict : r.verdict ≡ plain_verdict (tag_of time readings).verdict
  pub digest : r.digest ≡ plain_digest (tag_of time readings).tag

pub record Matches (tag : QtDigest) (time : ℕ) (readings : List ℕ) (r : QtMatched) : Type 0 where
  pub verdict : r.verdict ≡ plain_verdict (match_of tag.bytes time readings).verdict
  pub yes : r.yes ≡ (match_of tag.bytes time readings).yes

pub record Draws (word r : ℕ) : Type 0 where
  pub height : r ≡ height_of word

pub record Checks (b : List ℕ) (r : QtMetadataAnswer) : Type 0 where
  pub verdict : r.verdict ≡ plain_verdict (check_of b).verdict
  pub metadata : r.metadata ≡ shown_metadata (check_of b).metadata

pub record Proves (b : List ℕ) (position : ℕ) (lent : List ℕ) (place : ℕ) (r : QtProved) (after : List ℕ) : Type 0 where
  pub verdict : r.verdict ≡ plain_verdict (prove_of b position (length lent) place).verdict
  pub bytes : r.length ≡ (prove_of b position (length lent) place).length
  pub entries : r.entries ≡ (prove_of b position (length lent) place).entries
  pub buffer : after ≡ buffer_after b position lent place

pub record Applies (b : List ℕ) (k : QtCommand) (r : QtCounted) (after : List ℕ) : Type 0 where
  pub verdict : r.verdict ≡ plain_verdict (apply_of b (command_of k)).verdict
  pub count : r.count ≡ (apply_of b (command_of k)).count
  pub image : after ≡ image_after b (command_of k)

pub record Shapes (b lent : List ℕ) (r : QtCounted) (after : List ℕ) : Type 0 where
  pub verdict : r.verdict ≡ plain_verdict (shape_of b (length lent)).verdict
  pub count : r.count ≡ (shape_of b (length lent)).blocks
  pub entries : after ≡ shape_after b lent

pub record Saves (m : QtMetadata) (r : QtSaved) : Type 0 where
  pub verdict : r.verdict ≡ plain_verdict (save_of (held_metadata m)).verdict
  pub bytes : r.bytes ≡ (save_of (held_metadata m)).bytes

pub record Loads (saved : List ℕ) (r : QtMetadataAnswer) : Type 0 where
  pub verdict : r.verdict ≡ plain_verdict (load_of saved).verdict
  pub metadata : r.metadata ≡ shown_metadata (load_of saved).metadata

pub record Answers (m : QtMetadata) (k : QtCommand) (first second : List ℕ) (r : QtAnswer) : Type 0 where
  pub verdict : r.verdict ≡ plain_verdict (gateway_of (held_metadata m) (command_of k) first second).verdict
  pub tag : r.tag ≡ plain_digest (gateway_of (held_metadata m) (command_of k) first second).tag
  pub metadata : r.metadata ≡ shown_metadata (gateway_of (held_metadata m) (command_of k) first second).metadata

pub record Files (m : QtMetadata) (f : QtFiling) (readings left right first second : List ℕ) (r : QtAnswer) : Type 0 where
  pub verdict : r.verdict
      ≡ plain_verdict (filed_of (held_metadata m) (proposed (filing_of f) readings left right) first second).verdict
  pub tag : r.tag ≡ plain_digest (filed_of (held_metadata m) (proposed (filing_of f) readings left right) first second).tag
  pub metadata : r.metadata
      ≡ shown_metadata (filed_of (held_metadata m) (proposed (filing_of f) readings left right) first second).metadata

pub record Places (times : List ℕ) (time r : ℕ) : Type 0 where
  pub place : r ≡ place_for times time

pub record ProvesJointly (b ps lent : List ℕ) (place : ℕ) (r : QtProved) (after : List ℕ) : Type 0 where
  pub verdict : r.verdict ≡ plain_verdict (jointstore.joint_of b ps (length lent) place).verdict
  pub bytes : r.length ≡ (jointstore.joint_of b ps (length lent) place).length
  pub entries : r.entries ≡ 0
  pub buffer : after ≡ jointstore.buffer_after b ps lent place

pub record AnswersJointly (m : QtMetadata) (ps proof : List ℕ) (r : QtJointAnswer) : Type 0 where
  pub verdict : r.verdict ≡ plain_verdict (jointgateway.joint_of (held_metadata m) ps proof).verdict
  pub number : r.number ≡ (jointgateway.joint_of (held_metadata m) ps proof).number
  pub tags : r.tags ≡ (jointgateway.joint_of (held_metadata m) ps proof).tags
  pub metadata : r.metadata ≡ shown_metadata (jointgateway.joint_of (held_metadata m) ps proof).metadata
