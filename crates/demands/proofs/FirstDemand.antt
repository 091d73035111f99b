-- Demand 1: the number by the law on verdicts, and what a refusal leaves by what is settled.
-- Assumes nothing.
use Rattle.std.specs.Prelude.{Ok, Err}
use Prim.Native.Nat.{ℕ, ◌≤◌, ◌<◌}
use mathlib.Core.Path.{◌≡◌, refl, ap, sym, ◌∙◌}
use mathlib.Core.Logic.{◌⊎◌, inl, inr}
use mathlib.Core.List.{List}
use lib.ListN.{length}
use Rattle.refusals.specs.declared.Refusal.{Refusal}
use Rattle.refusals.specs.Order.{verdict_of}
use Rattle.sha256.specs.declared.Digested.{Digested}
use Rattle.sha256.specs.Answer.{longest, digest_of}
use Rattle.sha256.proofs.Answers.{digest_done, digest_refused}
use Rattle.labels.specs.Tags.{tag_rules, tag_of, match_of}
use Rattle.skiplist.specs.Blocks.{zeros}
use Rattle.skiplist.proofs.Cases.{order, never}
use Rattle.store.specs.Answers.{check_verdict, check_of, prove_rules, prove_verdict, prove_of, buffer_after}
use Rattle.store.specs.Answers.{apply_rules, apply_verdict, apply_of, image_after}
use Rattle.gateway.specs.Saving.{save_rules, save_of, load_rules, load_of}
use Rattle.gateway.specs.Gateway.{gateway_rules, gateway_of}
use Rattle.shapes.specs.Shape.{shape_rules, shape_of, shape_after}
use Rattle.jointstore.specs.Answers as jointstore
use Rattle.jointgateway.specs.Joint as joint
use Rattle.filer.specs.Filing.{filing_rules, filed_of}
use Rattle.demands.specs.Placed.{digest_rules, check_rules}
use Rattle.demands.specs.FirstDemand.{FirstDemand}
use Rattle.demands.proofs.Laws.{refuses, refused-settled}
use Rattle.demands.proofs.Placed.{digest_verdict, numbers_gateway, numbers_joint}

-- a digest that is refused is 32 zero bytes
digest-zeros : (m : List ℕ) (r : Refusal) → verdict_of (digest_rules m) ≡ Err r → (digest_of m).bytes ≡ zeros
digest-zeros m r e = go (order longest (length m))
  where
    go : (longest < length m) ⊎ (length m ≤ longest) → (digest_of m).bytes ≡ zeros
    go (inl h) = ap (λ (x : Digested). x.bytes) (digest_refused m h)
    go (inr h) =
        let z : Ok tt ≡ Err r = sym (ap (λ (x : Digested). x.verdict) (digest_done m h)) ∙ digest_verdict m ∙ e in
        never cc

pub first_demand : FirstDemand
unfolding tag_of match_of save_of load_of check_verdict check_of prove_verdict prove_of buffer_after
    apply_verdict apply_of image_after shape_of shape_after gateway_of
    jointstore.joint_verdict jointstore.joint_of jointstore.buffer_after joint.joint_of filed_of
first_demand = record {
  digest = λ m r a. refuses _ (digest_rules m) _ (a.verdict ∙ digest_verdict m) refl
      (λ w e. a.bytes ∙ digest-zeros m w e);
  tag = λ time readings r a. refuses _ (tag_rules readings) _ a.verdict refl (λ w e. a.tag ∙ refused-settled _ w _ _ e);
  match = λ tag time readings r a. refuses _ (tag_rules readings) _ a.verdict refl
      (λ w e. a.yes ∙ refused-settled _ w _ _ e);
  save = λ m r a. refuses _ (save_rules m) _ a.verdict refl (λ w e. a.bytes ∙ refused-settled _ w _ _ e);
  load = λ s r a. refuses _ (load_rules s) _ a.verdict refl (λ w e. a.metadata ∙ refused-settled _ w _ _ e);
  check = λ b r a. refuses _ (check_rules b) _ a.verdict refl (λ w e. a.metadata ∙ refused-settled _ w _ _ e);
  prove = λ b p lent at r after a. refuses _ (prove_rules b p _ at) _ a.verdict refl
      (λ w e. (
        a.bytes ∙ refused-settled _ w _ _ e,
        a.entries ∙ refused-settled _ w _ _ e,
        a.buffer ∙ refused-settled _ w _ _ e,
      ));
  apply = λ b k r after a. refuses _ (apply_rules b k) _ a.verdict refl
      (λ w e. (a.count ∙ refused-settled _ w _ _ e, a.image ∙ refused-settled _ w _ _ e));
  shape = λ b lent r after a. refuses _ (shape_rules b _) _ a.verdict refl
      (λ w e. (a.blocks ∙ refused-settled _ w _ _ e, a.entries ∙ refused-settled _ w _ _ e));
  gateway = λ m k first second r a. refuses _ (gateway_rules m k first second) _ a.verdict
      (numbers_gateway m k first second)
      (λ w e. (a.tag ∙ refused-settled _ w _ _ e, a.metadata ∙ refused-settled _ w _ _ e));
  joint_prove = λ b ps lent at r after a. refuses _ (jointstore.joint_rules b ps _ at) _ a.verdict refl
      (λ w e. (a.bytes ∙ refused-settled _ w _ _ e, a.entries, a.buffer ∙ refused-settled _ w _ _ e));
  joint_check = λ m ps s r a. refuses _ (joint.joint_rules m ps s) _ a.verdict (numbers_joint m ps s)
      (λ w e. (a.number ∙ refused-settled _ w _ _ e, a.tags ∙ refused-settled _ w _ _ e, a.metadata));
  file = λ m q first second r a. refuses _ (filing_rules m q first second) _ a.verdict refl
      (λ w e. (a.tag ∙ refused-settled _ w _ _ e, a.metadata ∙ refused-settled _ w _ _ e));
}
