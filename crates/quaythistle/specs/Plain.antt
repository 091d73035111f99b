-- What C passes and gets, and what it means: verdicts as document 01's numbers, digests in a struct, an operation as a number.
-- Assumes nothing.
use Rattle.refusals.specs.Order.{Verdict}
use Rattle.std.specs.Prelude.{ℕ, cond, List, eqb, ltb, Ok, Err}
use Rattle.refusals.specs.Numbers.{verdict_number, proof_of}
use Rattle.commands.specs.declared.Metadata.{Metadata}
use Rattle.commands.specs.declared.Operation.{Operation}
use Rattle.commands.specs.declared.Operation.TheVariants.{Read, Replace, Insert, Delete}
use Rattle.commands.specs.declared.Command.{Command}
use Rattle.filer.specs.declared.Filing.{Filing}
use Rattle.quaythistle.specs.declared.plain.QtDigest.{QtDigest}
use Rattle.quaythistle.specs.declared.plain.QtVerdict.{QtVerdict}
use Rattle.quaythistle.specs.declared.plain.QtMetadata.{QtMetadata}
use Rattle.quaythistle.specs.declared.plain.QtCommand.{QtCommand}
use Rattle.quaythistle.specs.declared.plain.QtFiling.{QtFiling}

-- "7, 8 and 9 also say which proof": 1 the first, 2 the second, 0 none; of a joint proof "with its place"
abbrev pub verdict_proof : Verdict → ℕ
verdict_proof (Ok tt) = 0
verdict_proof (Err r) = proof_of r

abbrev pub plain_verdict : Verdict → QtVerdict
plain_verdict v = record { refusal = verdict_number v; proof = verdict_proof v }

abbrev pub plain_digest : List ℕ → QtDigest
plain_digest bytes = record { bytes = bytes }

-- metadata that C passes, and that it gets
abbrev pub held_metadata : QtMetadata → Metadata
held_metadata m = record { count = m.count; label = m.label.bytes }

abbrev pub shown_metadata : Metadata → QtMetadata
shown_metadata m = record { count = m.count; label = plain_digest m.label }

-- the numbers of the operations; Read's is 0
abbrev pub replace_number : ℕ
replace_number = 1

abbrev pub insert_number : ℕ
insert_number = 2

abbrev pub delete_number : ℕ
delete_number = 3

unfoldable pub operation_of : ℕ → Operation
operation_of n = cond (eqb n replace_number) Replace (cond (eqb n insert_number) Insert (cond (eqb n delete_number) Delete Read))

-- A number over 3 names no command, and no position is in its range: it is Read's at position 0, which every call refuses with 2.
unfoldable pub position_of : ℕ → ℕ → ℕ
position_of n p = cond (ltb delete_number n) 0 p

-- A height over 255 is refused as 255 is.
abbrev pub greatest_height : ℕ
greatest_height = 255

unfoldable pub height_of : ℕ → ℕ
height_of h = cond (ltb greatest_height h) greatest_height h

abbrev pub command_of : QtCommand → Command
command_of k =
    record {
      operation = operation_of k.operation;
      position = position_of k.operation k.position;
      height = height_of k.height;
      tag = k.tag.bytes;
    }

abbrev pub filing_of : QtFiling → Filing
filing_of f =
    record {
      position = f.position;
      height = height_of f.height;
      time = f.time;
      left = f.left_time;
      right = f.right_time;
    }
