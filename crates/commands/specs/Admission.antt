-- Refusals 2, 3 and 4: "outside the command's range", "Insert with height over 15", "Insert with n = 4,096".
-- Assumes nothing.
use Rattle.std.specs.Prelude.{ℕ, Bool, true, false, ◌&&◌, ◌||◌, List, [], ◌∷◌, eqb, ltb}
use Rattle.refusals.specs.declared.Refusal.TheVariants.{BadPosition, BadHeight, Full}
use Rattle.refusals.specs.Order.{Rule, ◌when◌, verdict_of, Verdict}
use Rattle.skiplist.specs.Limits.{most_blocks, most_height}
use Rattle.commands.specs.declared.Operation.{Operation}
use Rattle.commands.specs.declared.Operation.TheVariants.{Read, Replace, Insert, Delete}
use Rattle.commands.specs.declared.Command.{Command}

abbrev pub inserts_of : Operation → Bool
inserts_of Read = false
inserts_of Replace = false
inserts_of Insert = true
inserts_of Delete = false

-- "Read p, 1 to n", "Replace p, 1 to n", "Insert after p, 0 to n", "Delete p, 1 to n"
abbrev pub least_of : Operation → ℕ
least_of Read = 1
least_of Replace = 1
least_of Insert = 0
least_of Delete = 1

-- Insert's own, for n blocks
abbrev pub insert_rules : Bool → ℕ → ℕ → List Rule
insert_rules inserts h n = (BadHeight when inserts && ltb most_height h) ∷ (Full when inserts && eqb n most_blocks) ∷ []

-- all of a command's, for n blocks
abbrev pub admission_rules : Command → ℕ → List Rule
admission_rules k n =
    (BadPosition when ltb k.position (least_of k.operation) || ltb n k.position) ∷
    insert_rules (inserts_of k.operation) k.height n

unfoldable pub insertable_of : ℕ → ℕ → Verdict
insertable_of h n = verdict_of (insert_rules true h n)

unfoldable pub admitted_of : Command → ℕ → Verdict
admitted_of k n = verdict_of (admission_rules k n)
