-- Document 02, ask 1: "Demands 2 and 3 read over the new tags." Demand 2: the tag that a block has, and when it matches one. Demand 3: a
-- block that matches the tag reported for a position is the block that stands there, its time and its readings, or there is
-- the exception of demand 3, or the two blocks' messages are two different ones with equal digest.
-- Assumes nothing.
use Rattle.std.specs.Prelude.{ℕ, ◌≤◌, ◌<◌, ◌≡◌, ◌⊎◌, true, List, length, Ok}
use Rattle.octets.specs.Runs.{same}
use Rattle.sha256.specs.Hash.{sha256}
use Rattle.skiplist.specs.Blocks.{Block, WithinLimits, tag_at}
use Rattle.labels.specs.Tags.{tag_message, time_bound, most_readings, tag_of, match_of, BlockClash}
use Rattle.commands.specs.declared.Command.{Command}
use Rattle.gateway.specs.Gateway.{gateway_of}
use Rattle.demands.specs.ThirdDemand.{held, Collision}

pub record TaggedBlocks : Type 0 where
  pub tagged : (time : ℕ) (readings : List ℕ) → length readings ≤ most_readings
      → tag_of time readings ≡ record { verdict = Ok tt; tag = sha256 (tag_message time readings) }
  pub matched : (tag : List ℕ) (time : ℕ) (readings : List ℕ) → length readings ≤ most_readings
      → match_of tag time readings ≡ record { verdict = Ok tt; yes = same (sha256 (tag_message time readings)) tag }
  -- the message is one-to-one in time and readings
  pub one_to_one : (t u : ℕ) (r s : List ℕ) → t < time_bound → u < time_bound → tag_message t r ≡ tag_message u s
      → (t ≡ u) × (r ≡ s)
  -- so two blocks have the same tag only where they are one block, or their messages clash
  pub apart : (t u : ℕ) (r s : List ℕ) → t < time_bound → u < time_bound
      → sha256 (tag_message t r) ≡ sha256 (tag_message u s) → BlockClash t r u s ⊎ ((t ≡ u) × (r ≡ s))
  -- u and s stand at the command's position; t and r match the tag that the gateway reports
  pub shown : (bs : List Block) (k : Command) (first second : List ℕ) (t u : ℕ) (r s : List ℕ) → WithinLimits bs
      → t < time_bound → u < time_bound → tag_at k.position bs ≡ sha256 (tag_message u s)
      → (gateway_of (held bs) k first second).verdict ≡ Ok tt → (match_of (gateway_of (held bs) k first second).tag t r).yes ≡ true
      → Collision bs k first second ⊎ (BlockClash t r u s ⊎ ((t ≡ u) × (r ≡ s)))
