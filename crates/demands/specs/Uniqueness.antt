-- "Every public call has a pledge that settles result, metadata and all lent bytes for all inputs, refusals too. Prove
-- that two outcomes satisfying it are equal." An outcome is the answer, and with it the bytes of a lent buffer after
-- the call where the call may write to one.
-- Assumes nothing.
use Rattle.std.specs.Prelude.{ℕ, ◌≡◌, List}
use Rattle.sha256.specs.Answer.{Answers}
use Rattle.labels.specs.Tags.{Tags, Matches}
use Rattle.labels.specs.Heights.{height_of}
use Rattle.commands.specs.declared.Metadata.{Metadata}
use Rattle.commands.specs.declared.Command.{Command}
use Rattle.store.specs.declared.Proved.{Proved}
use Rattle.store.specs.declared.Applied.{Applied}
use Rattle.store.specs.Pledges as store
use Rattle.gateway.specs.Saving.{Saves, Loads}
use Rattle.gateway.specs.Gateway as gateway
use Rattle.shapes.specs.declared.Shaped.{Shaped}
use Rattle.shapes.specs.Shape.{Shapes}
use Rattle.jointstore.specs.Pledges as jointstore
use Rattle.jointgateway.specs.Joint as joint
use Rattle.times.specs.Times.{place_for}
use Rattle.filer.specs.Filing.{Proposal, Files}
use Rattle.demands.specs.Words.{Unique}

pub record Uniqueness : Type 0 where
  pub digest : (m : List ℕ) → Unique (Answers m)
  pub tag : (time : ℕ) (readings : List ℕ) → Unique (Tags time readings)
  pub match : (tag : List ℕ) (time : ℕ) (readings : List ℕ) → Unique (Matches tag time readings)
  pub height : (word : ℕ) → Unique (λ r. r ≡ height_of word)
  pub save : (m : Metadata) → Unique (Saves m)
  pub load : (s : List ℕ) → Unique (Loads s)
  pub check : (b : List ℕ) → Unique (store.Checks b)
  pub prove : (b : List ℕ) (p : ℕ) (lent : List ℕ) (at : ℕ)
      → Unique (λ (o : Proved × List ℕ). store.Proves b p lent at o.0 o.1)
  pub apply : (b : List ℕ) (k : Command) → Unique (λ (o : Applied × List ℕ). store.Applies b k o.0 o.1)
  pub shape : (b lent : List ℕ) → Unique (λ (o : Shaped × List ℕ). Shapes b lent o.0 o.1)
  pub gateway : (m : Metadata) (k : Command) (first second : List ℕ) → Unique (gateway.Checks m k first second)
  pub joint_prove : (b ps lent : List ℕ) (at : ℕ) → Unique (λ (o : Proved × List ℕ). jointstore.Proves b ps lent at o.0 o.1)
  pub joint_check : (m : Metadata) (ps s : List ℕ) → Unique (joint.Checks m ps s)
  pub file : (m : Metadata) (q : Proposal) (first second : List ℕ) → Unique (Files m q first second)
  pub place : (times : List ℕ) (time : ℕ) → Unique (λ r. r ≡ place_for times time)
