-- DEMAND 2, its last words: "a refusal comes exactly where document 01 puts it." For each call the rules of document
-- 01's table in the order that document 01 gives ("Order. Prove: 1, 2, 6, 5. Apply: 1, 2, 3, 4, 5. Gateway: 12, 2, 3,
-- 4, then 7, 8, 9 on the first proof, the same on the second, then 10.") and ask 4 adds to ("14 REPEATED, in the gateway after 9, in
-- Apply after 4 and before 5") and ask 5 ("11 .. first of all; 7, 8, 9 for the second proof, after all of Insert's own; then 16 ..; then
-- 15"), and the verdict is settled by the first that is due.
-- Assumes nothing.
use Rattle.std.specs.Prelude.{ℕ, ◌≡◌, not, List, [], ◌∷◌, ltb, length}
use Rattle.refusals.specs.declared.Refusal.TheVariants.{BadImage, LongMessage}
use Rattle.refusals.specs.Order.{Rule, ◌when◌}
use Rattle.sha256.specs.Answer.{longest, digest_of}
use Rattle.labels.specs.Tags.{tag_rules, tag_of, match_of}
use Rattle.commands.specs.declared.Metadata.{Metadata}
use Rattle.commands.specs.declared.Command.{Command}
use Rattle.archive.specs.Reading.{sound}
use Rattle.store.specs.Answers.{check_of, prove_rules, prove_of, apply_rules, apply_of}
use Rattle.gateway.specs.Saving.{save_rules, save_of, load_rules, load_of}
use Rattle.gateway.specs.Gateway.{gateway_rules, gateway_of}
use Rattle.shapes.specs.Shape.{shape_rules, shape_of}
use Rattle.jointstore.specs.Answers as jointstore
use Rattle.jointgateway.specs.Joint as joint
use Rattle.filer.specs.Filing.{Proposal, filing_rules, filed_of}
use Rattle.demands.specs.Words.{proofs, gateway_numbers, gateway_proofs, filer_numbers, filer_proofs, joint_numbers, joint_places}
use Rattle.demands.specs.Words.{Exactly}

-- "11 LONG MESSAGE: over 4,096 bytes to digest"
abbrev pub digest_rules : List ℕ → List Rule
digest_rules m = (LongMessage when ltb longest (length m)) ∷ []

-- "1 BAD IMAGE"
abbrev pub check_rules : List ℕ → List Rule
check_rules b = (BadImage when not (sound b)) ∷ []

pub record Placed : Type 0 where
  pub digest : (m : List ℕ) → Exactly (digest_of m).verdict (digest_rules m) (11 ∷ [])
  pub tag : (time : ℕ) (readings : List ℕ) → Exactly (tag_of time readings).verdict (tag_rules readings) (11 ∷ [])
  pub match : (tag : List ℕ) (time : ℕ) (readings : List ℕ)
      → Exactly (match_of tag time readings).verdict (tag_rules readings) (11 ∷ [])
  pub save : (m : Metadata) → Exactly (save_of m).verdict (save_rules m) (12 ∷ [])
  pub load : (s : List ℕ) → Exactly (load_of s).verdict (load_rules s) (12 ∷ [])
  pub check : (b : List ℕ) → Exactly (check_of b).verdict (check_rules b) (1 ∷ [])
  pub prove : (b : List ℕ) (p room at : ℕ)
      → Exactly (prove_of b p room at).verdict (prove_rules b p room at) (1 ∷ 2 ∷ 6 ∷ 5 ∷ [])
  pub apply : (b : List ℕ) (k : Command)
      → Exactly (apply_of b k).verdict (apply_rules b k) (1 ∷ 2 ∷ 3 ∷ 4 ∷ 14 ∷ 5 ∷ [])
  pub shape : (b : List ℕ) (room : ℕ) → Exactly (shape_of b room).verdict (shape_rules b room) (1 ∷ 5 ∷ [])
  pub gateway : (m : Metadata) (k : Command) (first second : List ℕ)
      → Exactly (gateway_of m k first second).verdict (gateway_rules m k first second) (gateway_numbers k.operation)
  pub which : (m : Metadata) (k : Command) (first second : List ℕ)
      → proofs (gateway_rules m k first second) ≡ gateway_proofs k.operation
  -- ask 3: the store 1, 13, 2, 6, 5; the gateway 12, 13, 2, 7 with place 0, then 7, 8, 9 by place
  pub joint_prove : (b ps : List ℕ) (room at : ℕ)
      → Exactly (jointstore.joint_of b ps room at).verdict (jointstore.joint_rules b ps room at) (1 ∷ 13 ∷ 2 ∷ 6 ∷ 5 ∷ [])
  pub joint_check : (m : Metadata) (ps s : List ℕ)
      → Exactly (joint.joint_of m ps s).verdict (joint.joint_rules m ps s) (joint_numbers (length ps))
  pub joint_which : (m : Metadata) (ps s : List ℕ) → proofs (joint.joint_rules m ps s) ≡ joint_places (length ps)
  -- ask 5: the late filer
  pub file : (m : Metadata) (q : Proposal) (first second : List ℕ)
      → Exactly (filed_of m q first second).verdict (filing_rules m q first second) filer_numbers
  pub file_which : (m : Metadata) (q : Proposal) (first second : List ℕ) → proofs (filing_rules m q first second) ≡ filer_proofs
