-- Entries that are equal, byte for byte, from the root on.
-- Assumes nothing.
use mathlib.Core.Path.{◌≡◌, ◌∙◌}
use native.Mathlib.Omega.{arith}
use Rattle.std.proofs.Math.Nat.{min-le_left, min-le_right}
use Rattle.gateway.proofs.Runs.{shared_more, shared_not, shared_out, shared_done}
use Rattle.gateway.proofs.meeting.shared.Goals as goal

pub returns-then-not-same_entry : goal.returns-then-not-same_entry
returns-then-not-same_entry c =
    let a = c.args in (
      shared_done a.a.now a.b.now c.loop-j.j _ _ c.loop-j.invariant
          (shared_not a.a.now a.b.now c.loop-j.j _ _ (omega (arith, c.min-most.ensures, min-le_left c.entry_count-k.result c.entry_count-l.result))
          (omega (arith, c.min-most.ensures, min-le_right c.entry_count-k.result c.entry_count-l.result)) c.same_entry.ensures c.if-not-same_entry.true)
          c.entry_count-k.ensures c.entry_count-l.ensures,
      omega (arith, c.min-most.ensures, min-le_left c.entry_count-k.result c.entry_count-l.result, c.entry_count-k.ensures),
      omega (arith, c.min-most.ensures, min-le_right c.entry_count-k.result c.entry_count-l.result, c.entry_count-l.ensures),
    )

pub loop-j-preserved : goal.loop-j-preserved
loop-j-preserved c =
    let a = c.args in
    shared_more a.a.now a.b.now c.loop-j.j _ _ (omega (arith, c.min-most.ensures, min-le_left c.entry_count-k.result c.entry_count-l.result))
    (omega (arith, c.min-most.ensures, min-le_right c.entry_count-k.result c.entry_count-l.result)) c.same_entry.ensures c.if-not-same_entry.false
    ∙ c.loop-j.invariant

pub returns : goal.returns
returns c =
    let a = c.args in
    let e : c.min-most.result ≡ c.loop-j.j = omega arith in (
      e ∙ shared_done a.a.now a.b.now c.loop-j.j _ _ c.loop-j.invariant
          (shared_out a.a.now a.b.now c.loop-j.j _ _ c.min-most.ensures c.loop-j-test.false)
          c.entry_count-k.ensures c.entry_count-l.ensures,
      omega (arith, c.min-most.ensures, min-le_left c.entry_count-k.result c.entry_count-l.result, c.entry_count-k.ensures),
      omega (arith, c.min-most.ensures, min-le_right c.entry_count-k.result c.entry_count-l.result, c.entry_count-l.ensures),
    )
