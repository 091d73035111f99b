-- Demand 3 over the gateway's calls: the gateway's own theorem, for the metadata of the row.
-- Assumes nothing.
use Prim.Native.Nat.{ℕ}
use mathlib.Core.Path.{◌≡◌, refl, ap, ◌∙◌}
use mathlib.Core.Logic.{◌⊎◌, inl, inr}
use mathlib.Core.List.{List}
use Rattle.sha256.specs.Hash.{sha256}
use Rattle.skiplist.specs.Blocks.{Block, metadata_of, tag_at}
use Rattle.skiplist.specs.Commands.{edited, spot}
use Rattle.commands.specs.declared.Command.{Command}
use Rattle.commands.specs.Meaning.{held_side, metadata_of_side, meaning}
use Rattle.commands.proofs.RangeLaws.{spot_is}
use Rattle.gateway.specs.Gateway.{gateway_of}
use Rattle.gateway.proofs.Demands.{demand3, neighbours_meet}
use Rattle.jointgateway.proofs.JointDemands.{joint_demand_3, metadata_stays}
use Rattle.demands.specs.ThirdDemand.{held, Collision, Right, ThirdDemand}

right : (bs : List Block) (k : Command) (first second : List ℕ)
    → Collision bs k first second
    ⊎ ((held_side (gateway_of (held bs) k first second).metadata ≡ metadata_of sha256 (edited (meaning k) bs))
    × ((gateway_of (held bs) k first second).tag ≡ tag_at (spot (meaning k)) bs))
    → Collision bs k first second ⊎ Right bs k first second
right bs k first second (inl c) = inl c
right bs k first second (inr r) = inr (record {
  tag = r.1 ∙ ap (λ p. tag_at p bs) (spot_is k.operation k.position k.height k.tag);
  metadata = ap metadata_of_side r.0;
})

pub third_demand : ThirdDemand
third_demand = record {
  accepted = λ bs k first second l done. right bs k first second (demand3 (held bs) k first second bs l refl done);
  neighbours = λ bs k first second l refused. neighbours_meet (held bs) k first second bs l refl refused;
  joint = λ bs ps s l done. joint_demand_3 (held bs) ps s bs l refl done;
  joint_metadata = λ bs ps s. metadata_stays (held bs) ps s;
}
