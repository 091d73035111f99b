-- `shapes::downs` meets its contract.
-- Assumes nothing.
use native.Mathlib.Omega.{arith}
use mathlib.Core.Path.{sym}
use Rattle.octets.proofs.PatchLaws.{patch_none}
use Rattle.archive.specs.Reading.{count_of}
use Rattle.shapes.specs.Counters.{columns_from}
use Rattle.shapes.proofs.RowPass.{columns_none, length-columns, none_written, no_downs, down_turn, down_counters}
use Rattle.shapes.proofs.PassLaws.{downs_few}
use Rattle.shapes.proofs.downs.Goals as goal

pub loop-i-init : goal.loop-i-init
loop-i-init c =
    let b = c.args.image.bytes.now in (
      rw (c.count-i.ensures, columns_none b, none_written) (sym (patch_none c.args.out.now (count_of b))),
      rw c.count-i.ensures (no_downs 16 b),
    )

pub raised-m-requires : goal.raised-m-requires
raised-m-requires c =
    let b = c.args.image.bytes.now in (
      omega arith,
      omega arith,
      rw (c.loop-i.invariant.1 c.height-h.result)
          (omega (arith, downs_few c.height-h.result (columns_from b c.loop-i.i), length-columns b c.loop-i.i)),
    )

pub loop-i-preserved : goal.loop-i-preserved
loop-i-preserved c =
    let b = c.args.image.bytes.now in
    let v = c.loop-i.invariant in (
      down_turn b c.loop-i.out c.args.out.now c.loop-i.m c.loop-i.i (omega arith) (omega arith) (omega arith) v.0 v.1,
      down_counters b c.loop-i.m c.raised-m.result c.loop-i.i c.height-h.result (omega arith) (omega arith)
          c.height-h.ensures.0 v.1 c.raised-m.ensures,
    )
