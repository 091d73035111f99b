-- ASK 4, the modem that repeats itself: "After a lost acknowledgement the outstation sends the same block again and we file it twice.
-- Insert after p, p at least 1, is to be refused if the new tag equals the tag at p." Store and gateway refuse it with 14, and agree.
-- Assumes nothing.
use Rattle.std.specs.Prelude.{ℕ, ◌+◌, ◌≤◌, ◌<◌, ◌≡◌, ◌⊎◌, ◌↔◌, List, ◌++◌, length, Ok, Err}
use Rattle.refusals.specs.declared.Refusal.TheVariants.{Repeated}
use Rattle.skiplist.specs.Limits.{most_blocks}
use Rattle.skiplist.specs.Blocks.{Block, WithinLimits}
use Rattle.skiplist.specs.Commands.{InRange, edited, first_at}
use Rattle.commands.specs.declared.Operation.TheVariants.{Insert}
use Rattle.commands.specs.declared.Command.{Command}
use Rattle.commands.specs.Meaning.{meaning}
use Rattle.commands.specs.Again.{Again}
use Rattle.archive.specs.Form.{image_of}
use Rattle.proofbytes.specs.Layout.{most_entries}
use Rattle.store.specs.Answers.{apply_of}
use Rattle.gateway.specs.Gateway.{gateway_of}
use Rattle.demands.specs.SecondDemand.{entry_count, the_proof}
use Rattle.demands.specs.ThirdDemand.{held, Collision}

-- apply of k to the row's image, whatever bytes follow it, gives 14
abbrev pub StoreRefuses : List Block → List ℕ → Command → Type 0
StoreRefuses bs spare k = (apply_of (image_of bs ++ spare) k).verdict ≡ Err Repeated

-- the gateway, holding the row's metadata, gives 14 on these proofs
abbrev pub GatewayRefuses : List Block → Command → List ℕ → List ℕ → Type 0
GatewayRefuses bs k first second = (gateway_of (held bs) k first second).verdict ≡ Err Repeated

-- the honest proof; what rides along as the second is any bytes
abbrev pub honest : List Block → Command → List ℕ
honest bs k = the_proof bs (first_at (meaning k))

-- the same block once more, right after itself
abbrev pub once_more : Command → Command
once_more k = record { operation = Insert; position = k.position + 1; height = k.height; tag = k.tag }

pub record SentTwice : Type 0 where
  -- each gives 14 exactly where the tag comes again
  pub store : (bs : List Block) (spare : List ℕ) (k : Command) → WithinLimits bs → StoreRefuses bs spare k ↔ Again bs k
  pub gateway : (bs : List Block) (k : Command) (other : List ℕ) → WithinLimits bs
      → entry_count bs (first_at (meaning k)) ≤ most_entries
      → GatewayRefuses bs k (honest bs k) other ↔ Again bs k
  -- so with the honest proof they agree
  pub agree : (bs : List Block) (spare : List ℕ) (k : Command) (other : List ℕ) → WithinLimits bs
      → entry_count bs (first_at (meaning k)) ≤ most_entries
      → GatewayRefuses bs k (honest bs k) other ↔ StoreRefuses bs spare k
  -- with any proof, by any hand: what is refused with 14 comes again, and what is accepted does not, or two messages clash
  pub refused : (bs : List Block) (k : Command) (first second : List ℕ) → WithinLimits bs → GatewayRefuses bs k first second
      → Collision bs k first second ⊎ Again bs k
  pub accepted : (bs : List Block) (k : Command) (first second : List ℕ) → WithinLimits bs
      → (gateway_of (held bs) k first second).verdict ≡ Ok tt → Collision bs k first second ⊎ (Again bs k → ⊥)
  -- a block that was filed and is filed once more right after itself comes again
  pub filed_once_more : (bs : List Block) (k : Command) → k.operation ≡ Insert → InRange (meaning k) (length bs)
      → length bs + 1 < most_blocks → Again (edited (meaning k) bs) (once_more k)
