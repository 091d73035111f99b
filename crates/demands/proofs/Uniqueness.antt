-- Every pledge has one outcome alone: the crates' own theorems under one roof.
-- Assumes nothing.
use Prim.Native.Nat.{ℕ}
use mathlib.Core.Path.{◌≡◌}
use Rattle.sha256.proofs.Answers.{answer_unique}
use Rattle.labels.specs.Heights.{height_of}
use Rattle.labels.proofs.Unique.{tag_unique, match_unique}
use Rattle.store.proofs.Unique as store
use Rattle.gateway.proofs.SavedLaws.{save_unique, load_unique}
use Rattle.gateway.proofs.Pledge as gateway
use Rattle.shapes.proofs.ShapeLaws.{shape_unique}
use Rattle.jointstore.proofs.Unique as jointstore
use Rattle.jointgateway.proofs.Answers as joint
use Rattle.times.specs.Times.{place_for}
use Rattle.filer.proofs.Pledge.{file_unique}
use Rattle.demands.specs.Uniqueness.{Uniqueness}
use Rattle.demands.proofs.Laws.{settled_unique, both_unique}

pub uniqueness : Uniqueness
uniqueness = record {
  digest = answer_unique;
  tag = tag_unique;
  match = match_unique;
  height = λ word. settled_unique (λ (r : ℕ). r ≡ height_of word) (height_of word) (λ r e. e);
  save = save_unique;
  load = load_unique;
  check = store.check_unique;
  prove = λ b p lent at. both_unique _ (store.prove_unique b p lent at);
  apply = λ b k. both_unique _ (store.apply_unique b k);
  shape = λ b lent. both_unique _ (shape_unique b lent);
  gateway = gateway.check_unique;
  joint_prove = λ b ps lent at. both_unique _ (jointstore.prove_unique b ps lent at);
  joint_check = joint.check_unique;
  file = file_unique;
  place = λ times time. settled_unique (λ (r : ℕ). r ≡ place_for times time) (place_for times time) (λ r e. e);
}
