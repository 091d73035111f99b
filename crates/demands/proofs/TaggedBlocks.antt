-- The new tags: what is answered, what a tag tells of a block, and what the gateway's answer tells of the block at a position.
-- Assumes nothing.
use Rattle.std.specs.Prelude.{Ok}
use Prim.Native.Nat.{ℕ, ◌<◌}
use mathlib.Core.Path.{◌≡◌, ◌∙◌}
use mathlib.Core.Logic.{◌⊎◌, inl, inr}
use mathlib.Core.Bool.{true}
use mathlib.Core.List.{List}
use Rattle.sha256.specs.Hash.{sha256}
use Rattle.skiplist.specs.Blocks.{Block, WithinLimits, tag_at}
use Rattle.labels.specs.Tags.{tag_message, time_bound, match_of, BlockClash}
use Rattle.labels.proofs.TagLaws.{tag-done, match-done, match-yes, message_one_to_one, same_tag}
use Rattle.commands.specs.declared.Command.{Command}
use Rattle.gateway.specs.Gateway.{gateway_of}
use Rattle.demands.specs.ThirdDemand.{held, Collision, Right}
use Rattle.demands.specs.TaggedBlocks.{TaggedBlocks}
use Rattle.demands.proofs.ThirdDemand.{third_demand}

shown : (bs : List Block) (k : Command) (first second : List ℕ) (t u : ℕ) (r s : List ℕ) → WithinLimits bs
    → t < time_bound → u < time_bound → tag_at k.position bs ≡ sha256 (tag_message u s)
    → (gateway_of (held bs) k first second).verdict ≡ Ok tt → (match_of (gateway_of (held bs) k first second).tag t r).yes ≡ true
    → Collision bs k first second ⊎ (BlockClash t r u s ⊎ ((t ≡ u) × (r ≡ s)))
shown bs k first second t u r s limits ht hu there said matched = go (third_demand.accepted bs k first second limits said)
  where
    go : Collision bs k first second ⊎ Right bs k first second
        → Collision bs k first second ⊎ (BlockClash t r u s ⊎ ((t ≡ u) × (r ≡ s)))
    go (inl c) = inl c
    go (inr right) = inr (same_tag t u r s ht hu (match-yes _ t r matched ∙ right.tag ∙ there))

pub tagged_blocks : TaggedBlocks
tagged_blocks = record {
  tagged = tag-done;
  matched = match-done;
  one_to_one = message_one_to_one;
  apart = same_tag;
  shown = shown;
}
