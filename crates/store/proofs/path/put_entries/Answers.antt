-- `store::path::put_entries` meets its contract: `Held` at each turn.
-- Assumes nothing.
use native.Mathlib.Omega.{arith}
use Prim.Native.Nat.{◌-◌, ◌≤◌, ◌<◌}
use mathlib.Core.Path.{◌≡◌, ◌∙◌}
use lib.ListN.{length}
use Rattle.skiplist.specs.Limits.{most_height}
use Rattle.store.proofs.TailLaws.{nearest_is}
use Rattle.store.proofs.TurnLaws.{start, slots_room, right_room, turn, done}
use borrow.Author.Rules.{rules}
use Rattle.store.proofs.path.put_entries.Goals as goal

pub loop-a-init : goal.loop-a-init
loop-a-init c = start _ _ _ _ _ _ _ c.requires.4

pub loop-a-smaller : goal.loop-a-smaller
loop-a-smaller c =
    let nx : c.anchor-i.result ≤ c.loop-a.a - 1 =
    rw c.anchor-i.ensures (nearest_is c.args.image.bytes.now c.height-h.result (c.loop-a.a - 1)).before in
    let more : c.args.from < c.loop-a.a = search rules in
    omega (arith, nx, more)

pub put_slots-q-requires : goal.put_slots-q-requires
put_slots-q-requires c =
    let h = c.height-h.result in
    let more : c.args.from < c.loop-a.a = search rules in
    let hb = c.height-h.ensures.1 in
    let hl : c.loop-a.l ≤ h = omega (arith, c.loop-a.invariant.anchor (omega (arith, more)), c.height-h.ensures.0) in (
      hl,
      hb,
      omega (arith, c.loop-a.invariant.left, c.loop-a.invariant.size, c.requires.1),
      slots_room c.args.image.bytes.now c.args.s c.args.at c.args.k c.args.from c.args.p c.args.buffer.now
          c.requires.2 c.loop-a.buffer
          c.loop-a.a c.loop-a.l c.loop-a.r c.loop-a.invariant h hl hb,
      c.requires.3,
    )

pub overflow_sub-r : goal.overflow_sub-r
overflow_sub-r c =
    let h = c.height-h.result in
    let more : c.args.from < c.loop-a.a = search rules in
    let hb = c.height-h.ensures.1 in
    right_room c.args.image.bytes.now c.args.s c.args.at c.args.k c.args.from c.args.p c.args.buffer.now
    c.requires.2 c.loop-a.buffer
    c.loop-a.a c.loop-a.l c.loop-a.r c.loop-a.invariant more c.requires.5 h c.height-h.ensures.0 hb c.put_slots-q.result
    c.put_slots-q.ensures.0
    c.anchor-i.result c.anchor-i.ensures

pub put_right-requires : goal.put_right-requires
put_right-requires c =
    let h = c.height-h.result in
    let more : c.args.from < c.loop-a.a = search rules in
    let hb = c.height-h.ensures.1 in
    let q1 : 1 ≤ c.put_slots-q.result =
    right_room c.args.image.bytes.now c.args.s c.args.at c.args.k c.args.from c.args.p c.args.buffer.now
    c.requires.2 c.loop-a.buffer
    c.loop-a.a c.loop-a.l c.loop-a.r c.loop-a.invariant more c.requires.5 h c.height-h.ensures.0 hb c.put_slots-q.result
    c.put_slots-q.ensures.0
    c.anchor-i.result c.anchor-i.ensures in
    let ld : length c.put_slots-q.new.buffer ≡ length c.loop-a.buffer = search rules in
    let nx : c.anchor-i.result ≤ c.loop-a.a - 1 = rw c.anchor-i.ensures
    (nearest_is c.args.image.bytes.now h (c.loop-a.a - 1)).before in (
      omega (arith, q1, ld, c.put_slots-q.ensures.0, c.loop-a.invariant.left, c.loop-a.invariant.size, c.requires.1),
      nx,
      omega (arith, c.loop-a.invariant.within, c.requires.0),
      hb,
    )

pub loop-a-preserved : goal.loop-a-preserved
loop-a-preserved c =
    let h = c.height-h.result in
    let more : c.args.from < c.loop-a.a = search rules in
    let hb = c.height-h.ensures.1 in
    let ld : length c.put_slots-q.new.buffer ≡ length c.loop-a.buffer = search rules in
    let le : length c.put_right.new.buffer ≡ length c.put_slots-q.new.buffer = search rules in
    turn c.args.image.bytes.now c.args.s c.args.at c.args.k c.args.from c.args.p c.args.buffer.now c.requires.2
    c.loop-a.buffer
    c.loop-a.a c.loop-a.l c.loop-a.r c.loop-a.invariant more c.requires.5 h c.height-h.ensures.0 hb c.put_slots-q.result
    c.put_slots-q.ensures.0
    c.anchor-i.result c.anchor-i.ensures c.put_slots-q.new.buffer c.put_right.new.buffer c.requires.3
    (omega (arith, c.args.image.room, c.requires.0)) c.requires.1 c.put_slots-q.ensures.1
    ld
    c.put_right.ensures le

pub put_slots-requires : goal.put_slots-requires
put_slots-requires c = (
  c.loop-a.invariant.low,
  omega arith,
  omega (arith, c.loop-a.invariant.left, c.loop-a.invariant.size, c.requires.1),
  slots_room c.args.image.bytes.now c.args.s c.args.at c.args.k c.args.from c.args.p c.args.buffer.now
      c.requires.2 c.loop-a.buffer
      c.loop-a.a c.loop-a.l c.loop-a.r c.loop-a.invariant most_height c.loop-a.invariant.low (omega arith),
  c.requires.3,
)

pub returns : goal.returns
returns c =
    let r = done c.args.image.bytes.now c.args.s c.args.at c.args.k c.args.from c.args.p c.args.buffer.now
    c.requires.2 c.loop-a.buffer
    c.put_slots.new.buffer c.loop-a.a c.loop-a.l c.loop-a.r c.put_slots.result c.loop-a.invariant
    (search rules) c.requires.3 c.requires.1
    c.put_slots.ensures.0 c.put_slots.ensures.1 in
    (r.0, r.1 ∙ omega (arith, c.requires.2))
