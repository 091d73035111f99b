-- An operation number over 3 names no command, so no position is in its range: each call that takes a command refuses it with 2, but for
-- what comes before 2 in the call's order.
-- Assumes nothing.
use Rattle.std.specs.Prelude.{Err}
use Prim.Native.Nat.{ℕ, ◌<◌, ◌≤◌}
use mathlib.Core.Path.{◌≡◌}
use mathlib.Core.Bool.{false, true, cond, not, ◌||◌}
use mathlib.Core.List.{List}
use lib.Dec.{eqb, ltb}
use native.Mathlib.Omega.{arith}
use borrow.Author.Tests.{lt-ltb, ne_eqb}
use Rattle.refusals.specs.declared.Refusal.TheVariants.{BadImage, BadPosition, BadMetadata}
use Rattle.skiplist.specs.Limits.{most_blocks}
use Rattle.archive.specs.Reading.{sound}
use Rattle.commands.specs.declared.Metadata.{Metadata}
use Rattle.commands.specs.Admission.{least_of}
use Rattle.store.specs.Answers.{apply_verdict, apply_of}
use Rattle.gateway.specs.Gateway.{gateway_of}
use Rattle.quaythistle.specs.declared.plain.QtCommand.{QtCommand}
use Rattle.quaythistle.specs.Plain.{replace_number, insert_number, delete_number, operation_of, position_of, command_of}

-- no number over 3 names an operation but Read
other : (x y : ℕ) → y ≤ delete_number → delete_number < x → eqb x y ≡ false
other x y within over = ne_eqb x y (λ (same : x ≡ y). omega (arith, same))

-- the position that it is read as is below the range
outside
    : (k : QtCommand) (n : ℕ) → delete_number < k.operation
    → (ltb (command_of k).position (least_of (command_of k).operation) || ltb n (command_of k).position) ≡ true
unfolding operation_of position_of
outside k n over =
    rw (
      lt-ltb _ _ over,
      other k.operation replace_number (omega arith) over,
      other k.operation insert_number (omega arith) over,
      other k.operation delete_number (omega arith) over,
    )

pub strange_applied
    : (b : List ℕ) (k : QtCommand) → delete_number < k.operation
    → (apply_of b (command_of k)).verdict ≡ cond (not (sound b)) (Err BadImage) (Err BadPosition)
unfolding apply_of apply_verdict
strange_applied b k over = rw (outside k _ over)

pub strange_checked
    : (m : Metadata) (k : QtCommand) (first second : List ℕ) → delete_number < k.operation
    → (gateway_of m (command_of k) first second).verdict ≡ cond (ltb most_blocks m.count) (Err BadMetadata) (Err BadPosition)
unfolding gateway_of
strange_checked m k first second over = rw (outside k m.count over)
