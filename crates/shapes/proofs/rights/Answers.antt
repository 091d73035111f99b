-- `shapes::rights` meets its contract.
-- Assumes nothing.
use native.Mathlib.Omega.{arith}
use native.Mathlib.Numerals.{add-one}
use mathlib.Core.Path.{◌∙◌}
use Rattle.skiplist.specs.Blocks.{row}
use Rattle.archive.specs.Reading.{blocks_from}
use Rattle.shapes.proofs.PassLaws.{rights_few}
use Rattle.shapes.proofs.RowPass.{length_front, no_rights, right_counters, right_start, right_end, right_turn, right_sum}
use Rattle.shapes.proofs.RowPass.{right_few}
use Rattle.shapes.proofs.rights.Goals as goal

pub loop-i-init : goal.loop-i-init
loop-i-init c =
    let b = c.args.image.bytes.now in (right_start b c.args.out.now c.requires.1, no_rights 16 b)

pub raised-m-requires : goal.raised-m-requires
raised-m-requires c =
    let b = c.args.image.bytes.now in (
      omega arith,
      omega arith,
      rw (c.loop-i.invariant.1 c.height-h.result)
          (omega (arith, rights_few c.height-h.result (row (blocks_from b 0 c.loop-i.i)), length_front b c.loop-i.i)),
    )

pub overflow_add-out : goal.overflow_add-out
overflow_add-out c =
    let b = c.args.image.bytes.now in
    let v = c.loop-i.invariant in
    let k = right_counters b c.loop-i.m c.raised-m.result c.loop-i.i c.height-h.result c.height-h.ensures.0 v.1
    c.raised-m.ensures in
    omega (
      arith,
      right_few b c.loop-i.out c.args.out.now c.loop-i.i (omega arith) (omega arith) v.0 c.raised-m.result k,
    )

pub loop-i-preserved : goal.loop-i-preserved
loop-i-preserved c =
    let b = c.args.image.bytes.now in
    let v = c.loop-i.invariant in
    let o = c.args.out.now in
    let k = right_counters b c.loop-i.m c.raised-m.result c.loop-i.i c.height-h.result c.height-h.ensures.0 v.1
    c.raised-m.ensures in (
      right_turn b c.loop-i.out o c.loop-i.i (omega arith) (omega arith) v.0 _
          (right_sum b c.loop-i.out o c.loop-i.i (omega arith) (omega arith) v.0 c.raised-m.result k),
      rw add-one k,
    )

pub returns : goal.returns
returns c = c.loop-i.invariant.0 ∙ rw (right_end c.args.image.bytes.now c.loop-i.i (omega arith))
