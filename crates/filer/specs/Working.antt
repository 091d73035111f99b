-- What the filer's private functions answer, on the way to `filed_of`: the command, and the answer from the first proof on.
-- Assumes nothing.
use Rattle.std.specs.Prelude.{ℕ, ◌≤◌, ◌≡◌, Bool, true, List, [], ◌++◌, length, Result, Ok, Err}
use Rattle.refusals.specs.declared.Which.TheVariants.{First}
use Rattle.refusals.specs.declared.Refusal.{Refusal}
use Rattle.refusals.specs.Order.{Rule, verdict_of}
use Rattle.skiplist.specs.Blocks.{shown}
use Rattle.commands.specs.declared.Metadata.{Metadata}
use Rattle.commands.specs.declared.Operation.TheVariants.{Insert}
use Rattle.commands.specs.declared.Command.{Command}
use Rattle.labels.specs.Tags.{most_readings}
use Rattle.proofbytes.specs.Reading.{Sized, place_of}
use Rattle.gateway.specs.declared.Answer.{Answer}
use Rattle.gateway.specs.Checking.{proof_rules}
use Rattle.gateway.specs.Working.{refused_of}
use Rattle.gateway.specs.Gateway.{later_rules, inserted_of, answered}
use Rattle.filer.specs.declared.Filing as code
use Rattle.filer.specs.Filing.{Timed, Proposal, tag_for, second_rules, neighbour_rules}

-- Insert with any tag
abbrev pub command_of : code.Filing → List ℕ → Command
command_of f tag = record { operation = Insert; position = f.position; height = f.height; tag = tag }

-- a block that is needed can be matched: it is not long, and its proof has whole records
abbrev pub Shown : Bool → List ℕ → List ℕ → Type 0
Shown needed readings s = needed ≡ true → (length readings ≤ most_readings) × Sized s

-- after the first proof's: 14, the second proof's, 16 and 15
abbrev pub after_first : Metadata → ℕ → ℕ → List ℕ → Timed → Timed → List ℕ → List ℕ → List Rule
after_first m p new tag left right first second =
    later_rules Insert m p tag first [] ++ (second_rules m p second ++ neighbour_rules p m.count new left right first second)

-- what the filer answers by what a function hands on: Insert's answer, or a refusal
abbrev pub answer_with : Metadata → Result Answer Refusal → Answer
answer_with m (Ok a) = a
answer_with m (Err why) = refused_of m why

-- from the first proof on
unfoldable pub worked_of : Metadata → Proposal → List ℕ → List ℕ → Answer
worked_of m q first second =
    answered
    (verdict_of (proof_rules First first q.position m ++ after_first m q.position q.new.time (tag_for q.new) q.left
    q.right first second))
    (shown (place_of first).item) (inserted_of q.height (tag_for q.new) first) m
