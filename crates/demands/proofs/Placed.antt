-- A refusal comes exactly where document 01 puts it: every call's verdict is that of its list of rules.
-- Assumes nothing.
use Prim.Native.Nat.{ℕ, suc, ◌≤◌, ◌<◌}
use mathlib.Core.Path.{◌≡◌, refl, ap, sym, ◌∙◌}
use mathlib.Core.Logic.{◌⊎◌, inl, inr}
use mathlib.Core.List.{List, [], ◌∷◌}
use lib.ListN.{length}
use borrow.Author.Tests.{lt-ltb, le-ltb}
use Rattle.refusals.specs.Order.{verdict_of}
use Rattle.sha256.specs.declared.Digested.{Digested}
use Rattle.sha256.proofs.Answers.{digest_done, digest_refused}
use Rattle.skiplist.proofs.Cases.{order}
use Rattle.sha256.specs.Answer.{longest, digest_of}
use Rattle.labels.specs.Tags.{tag_rules, tag_of, match_of}
use Rattle.commands.specs.declared.Metadata.{Metadata}
use Rattle.commands.specs.declared.Operation.{Operation}
use Rattle.commands.specs.declared.Operation.TheVariants.{Read, Replace, Insert, Delete}
use Rattle.commands.specs.declared.Command.{Command}
use Rattle.store.specs.Answers.{check_verdict, check_of, prove_rules, prove_verdict, prove_of}
use Rattle.store.specs.Answers.{apply_rules, apply_verdict, apply_of}
use Rattle.gateway.specs.Saving.{save_rules, save_of, load_rules, load_of}
use Rattle.gateway.specs.Gateway.{later_rules, gateway_rules, gateway_of}
use Rattle.shapes.specs.Shape.{shape_rules, shape_of}
use Rattle.filer.specs.Filing.{filing_rules, filed_of}
use Rattle.demands.specs.Words.{numbers, proofs, later_numbers, gateway_numbers, later_proofs}
use Rattle.demands.specs.Words.{place_numbers, joint_numbers, places_from}
use Rattle.jointstore.specs.Answers as jointstore
use Rattle.jointgateway.specs.Joint as joint
use Rattle.demands.specs.Placed.{digest_rules, check_rules, Placed}
use Rattle.demands.proofs.Laws.{placed}

-- a message is long where it is not of at most 4,096 bytes
pub digest_verdict : (m : List ℕ) → (digest_of m).verdict ≡ verdict_of (digest_rules m)
digest_verdict m = go (order longest (length m))
  where
    go : (longest < length m) ⊎ (length m ≤ longest) → (digest_of m).verdict ≡ verdict_of (digest_rules m)
    go (inl h) = ap (λ (x : Digested). x.verdict) (digest_refused m h) ∙ sym (rw (lt-ltb longest (length m) h))
    go (inr h) = ap (λ (x : Digested). x.verdict) (digest_done m h) ∙ sym (rw (le-ltb longest (length m) h))

numbers_later : (o : Operation) (m : Metadata) (p : ℕ) (t first second : List ℕ)
    → numbers (later_rules o m p t first second) ≡ later_numbers o
numbers_later Read m p t first second = refl
numbers_later Replace m p t first second = refl
numbers_later Insert m p t first second = refl
numbers_later Delete m p t first second = refl

proofs_later : (o : Operation) (m : Metadata) (p : ℕ) (t first second : List ℕ)
    → proofs (later_rules o m p t first second) ≡ later_proofs o
proofs_later Read m p t first second = refl
proofs_later Replace m p t first second = refl
proofs_later Insert m p t first second = refl
proofs_later Delete m p t first second = refl

pub numbers_gateway : (m : Metadata) (k : Command) (first second : List ℕ)
    → numbers (gateway_rules m k first second) ≡ gateway_numbers k.operation
numbers_gateway m k first second = rw (numbers_later k.operation m k.position k.tag first second)

numbers_place : (s : List ℕ) (m : Metadata) (i : ℕ) (ps : List ℕ)
    → numbers (joint.place_rules s m i ps) ≡ place_numbers (length ps)
unfolding joint.place_rules
numbers_place s m i [] = refl
numbers_place s m i (p ∷ ps) = ap (λ ns. 7 ∷ 8 ∷ 9 ∷ ns) (numbers_place s m (suc i) ps)

pub numbers_joint : (m : Metadata) (ps s : List ℕ) → numbers (joint.joint_rules m ps s) ≡ joint_numbers (length ps)
numbers_joint m ps s = ap (λ ns. 12 ∷ 13 ∷ 2 ∷ 7 ∷ ns) (numbers_place s m 0 ps)

place-places : (s : List ℕ) (m : Metadata) (i : ℕ) (ps : List ℕ)
    → proofs (joint.place_rules s m i ps) ≡ places_from (suc i) (length ps)
unfolding joint.place_rules
place-places s m i [] = refl
place-places s m i (p ∷ ps) = ap (λ ns. suc i ∷ suc i ∷ suc i ∷ ns) (place-places s m (suc i) ps)

pub all_placed : Placed
unfolding tag_of match_of save_of load_of check_verdict check_of prove_verdict prove_of apply_verdict apply_of shape_of gateway_of
    jointstore.joint_verdict jointstore.joint_of joint.joint_of filed_of
all_placed = record {
  digest = λ m. placed _ (digest_rules m) _ (digest_verdict m) refl;
  tag = λ time readings. placed _ (tag_rules readings) _ refl refl;
  match = λ tag time readings. placed _ (tag_rules readings) _ refl refl;
  save = λ m. placed _ (save_rules m) _ refl refl;
  load = λ s. placed _ (load_rules s) _ refl refl;
  check = λ b. placed _ (check_rules b) _ refl refl;
  prove = λ b p room at. placed _ (prove_rules b p room at) _ refl refl;
  apply = λ b k. placed _ (apply_rules b k) _ refl refl;
  shape = λ b room. placed _ (shape_rules b room) _ refl refl;
  gateway = λ m k first second. placed _ (gateway_rules m k first second) _ refl (numbers_gateway m k first second);
  joint_prove = λ b ps room at. placed _ (jointstore.joint_rules b ps room at) _ refl refl;
  joint_check = λ m ps s. placed _ (joint.joint_rules m ps s) _ refl (numbers_joint m ps s);
  joint_which = λ m ps s. ap (λ ns. 0 ∷ 0 ∷ 0 ∷ 0 ∷ ns) (place-places s m 0 ps);
  which = λ m k first second. rw (proofs_later k.operation m k.position k.tag first second);
  file = λ m q first second. placed _ (filing_rules m q first second) _ refl refl;
  file_which = λ m q first second. refl;
}
