-- What the gateway hashes in checking, as the messages in their order, refusals included: nothing before 7 and 8 pass
-- and the proved rank is the count; then the labels from the stop upwards; the second proof's only where the first
-- passed.
-- Assumes nothing.
use Rattle.std.specs.Prelude.{ℕ, cond, ◌&&◌, List, [], ◌++◌}
use Rattle.refusals.specs.declared.Which.TheVariants.{First}
use Rattle.refusals.specs.Order.{verdict_of, settled}
use Rattle.sha256.specs.Hash.{sha256}
use Rattle.skiplist.specs.Messages.{proof_messages}
use Rattle.skiplist.specs.Commands.{first_at}
use Rattle.commands.specs.declared.Metadata.{Metadata}
use Rattle.commands.specs.declared.Operation.{Operation}
use Rattle.commands.specs.declared.Operation.TheVariants.{Read, Replace, Insert, Delete}
use Rattle.commands.specs.declared.Command.{Command}
use Rattle.commands.specs.Meaning.{meaning}
use Rattle.proofbytes.specs.Reading.{place_of}
use Rattle.proofbytes.specs.Form.{well_formed}
use Rattle.gateway.specs.Checking.{proves, ranked, proof_rules}
use Rattle.gateway.specs.Gateway.{opening_rules}

abbrev pub one_messages : List ℕ → ℕ → Metadata → List (List ℕ)
one_messages s p m = cond (well_formed s && (proves s p && ranked s m)) (proof_messages sha256 (place_of s)) []

abbrev pub second_messages : Operation → List (List ℕ) → List (List ℕ)
second_messages Read ms = []
second_messages Replace ms = []
second_messages Insert ms = []
second_messages Delete ms = ms

abbrev pub gateway_messages : Metadata → Command → List ℕ → List ℕ → List (List ℕ)
gateway_messages m k first second =
    settled (verdict_of (opening_rules m k))
    (one_messages first (first_at (meaning k)) m
    ++ second_messages k.operation
    (settled (verdict_of (proof_rules First first (first_at (meaning k)) m)) (one_messages second k.position m) []))
    []
