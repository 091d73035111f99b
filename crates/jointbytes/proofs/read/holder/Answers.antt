-- `jointbytes::read::holder` meets its contract: the holder among the pieces so far.
-- Assumes nothing.
use native.Mathlib.Omega.{arith}
use lib.ListN.{length}
use mathlib.Core.Path.{sym, subst}
use Prim.Native.Nat.{◌+◌, ◌≤◌}
use Rattle.jointbytes.specs.Reading.{end_of}
use Rattle.jointbytes.specs.Working.{holder_of}
use Rattle.jointbytes.proofs.StandLaws.{stands_next, piece-next, holder_next}
use Rattle.jointbytes.proofs.read.holder.Goals as goal

pub loop-b-init : goal.loop-b-init
unfolding holder_of
loop-b-init c = (c.first-q.ensures.0, c.first-q.ensures.0)

pub next-q-requires : goal.next-q-requires
next-q-requires c =
    subst (λ x. end_of x + 2 ≤ length c.args.s.now) (sym c.loop-b.invariant.0)
    (stands_next c.args.s.now c.loop-b._b c.args.i (omega arith) c.requires.1)

pub loop-b-preserved : goal.loop-b-preserved
loop-b-preserved c =
    let v = c.loop-b.invariant in
    let p = piece-next c.args.s.now c.loop-b._b v.0 c.next-q.ensures.0 in
    (p, holder_next c.args.s.now c.loop-b._b c.args.j v.1 p c.later-h.ensures)
