-- What metadata and commands of the code mean in the model, and the answers that every call shares.
-- Assumes nothing.
use Rattle.std.specs.Prelude.{ℕ, List}
use Rattle.skiplist.specs.Label.{Side}
use Rattle.skiplist.specs.Blocks.{zeros}
use Rattle.skiplist.specs.Commands as model
use Rattle.commands.specs.declared.Metadata.{Metadata}
use Rattle.commands.specs.declared.Operation.{Operation}
use Rattle.commands.specs.declared.Operation.TheVariants.{Read, Replace, Insert, Delete}
use Rattle.commands.specs.declared.Command.{Command}

-- "count 0 and a zero label"
abbrev pub no_metadata : Metadata
no_metadata = record { count = 0; label = zeros }

-- metadata as the root's rank and label
abbrev pub held_side : Metadata → Side
held_side m = record { rank = m.count; label = m.label }

abbrev pub metadata_of_side : Side → Metadata
metadata_of_side s = record { count = s.rank; label = s.label }

abbrev pub order_of : Operation → ℕ → ℕ → List ℕ → model.Command
order_of Read p h t = model.read p
order_of Replace p h t = model.replace p t
order_of Insert p h t = model.insert p (record { height = h; tag = t })
order_of Delete p h t = model.delete p

-- a command of the code as the model's
abbrev pub meaning : Command → model.Command
meaning k = order_of k.operation k.position k.height k.tag
