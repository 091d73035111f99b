-- `shapes::shape` meets its pledge: the three answers.
-- Assumes nothing.
use native.Mathlib.Omega.{arith}
use Prim.Native.Nat.{◌≤◌}
use lib.ListN.{length}
use Rattle.archive.specs.Reading.{count_of}
use Rattle.shapes.proofs.ShapeLaws.{done, no_room, bad_image, between_long, downs_written, entries_written}
use Rattle.shapes.proofs.shape.Goals as goal

pub returns-in_default : goal.returns-in_default
returns-in_default c =
    rw c.refused.ensures (bad_image c.args.image.now c.args.entries.now c.in_default.ensures)

pub returns-then-entries-count : goal.returns-then-entries-count
returns-then-entries-count c =
    let x = c.in-Some.x in
    rw (c.refused-then-entries-count.ensures, ← c.in-Some.ensures)
    (no_room x.bytes.now x.good c.args.entries.now (omega arith))

pub rights-requires : goal.rights-requires
rights-requires c =
    let b = c.in-Some.x.bytes.now in
    let r : count_of b ≤ length c.args.entries.now = omega arith in (
      between_long b c.args.entries.now c.downs.new.out r c.downs.ensures,
      downs_written b c.args.entries.now c.downs.new.out r c.downs.ensures,
    )

pub returns : goal.returns
returns c =
    let x = c.in-Some.x in
    let b = x.bytes.now in
    let o = c.args.entries.now in
    let r : count_of b ≤ length o = omega arith in
    rw (← c.in-Some.ensures)
    (done b x.good o c.rights.new.out c.count-2.result c.count-2.ensures (omega arith)
    (entries_written b o c.downs.new.out r c.downs.ensures c.rights.new.out c.rights.ensures))
