-- `store::path::put_slots` meets its contract: the entries above level l and below level m are written.
-- Assumes nothing.
use native.Mathlib.Omega.{arith}
use Prim.Native.Nat.{◌+◌, ◌-◌}
use mathlib.Core.Path.{◌≡◌}
use Rattle.store.proofs.EntryLaws.{span_room, span_put}
use borrow.Author.Rules.{rules}
use Rattle.store.proofs.path.put_slots.Goals as goal

pub put_slot-q-requires : goal.put_slot-q-requires
put_slot-q-requires c = (
  omega arith,
  omega arith,
  span_room c.args.s c.args.l c.loop-m.m c.args.h c.args.r c.loop-m.q _ (omega arith) (omega arith) (search rules)
      c.loop-m.invariant.1 c.requires.3,
)

pub loop-m-preserved : goal.loop-m-preserved
loop-m-preserved c =
    let e : c.loop-m.m + 1 - 1 ≡ c.loop-m.m = omega arith in
    let n = span_put c.args.s c.args.l c.loop-m.m c.args.h c.args.r c.loop-m.q _ (omega arith) (omega arith)
    (search rules) c.loop-m.invariant.1 c.args.buffer.now c.loop-m.buffer c.put_slot-q.new.buffer c.args.at
    c.put_slot-q.result c.requires.4 c.requires.2 c.loop-m.invariant.2 c.put_slot-q.ensures.0 c.put_slot-q.ensures.1 in
    (search rules, rw e n.0, rw e n.1)
