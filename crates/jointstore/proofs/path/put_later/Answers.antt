-- `jointstore::path::put_later` meets its contract: `Written` at each turn.
-- Assumes nothing.
use native.Mathlib.Omega.{arith}
use Prim.Native.Nat.{◌+◌, ◌-◌}
use mathlib.Core.Path.{◌≡◌, subst}
use lib.ListN.{drop, get_or}
use Rattle.jointstore.specs.Passes.{later_at}
use Rattle.jointstore.proofs.PositionLaws.{Ahead, asked, next_is, shallow_next}
use Rattle.jointstore.proofs.PutLaws.{Written, written_start, written_room, written_turn, written_end}
use Rattle.jointstore.proofs.path.put_later.Goals as goal

pub loop-i-init : goal.loop-i-init
loop-i-init c =
    let b = c.args.image.bytes.now in
    let ps = c.args.ps.now in
    let q = asked b ps c.requires.0 c.requires.1 in
    ((shallow_next b ps 0 q.some c.requires.2).1, q.ahead, written_start b ps c.args.buffer.now c.args.at)

pub put_piece-end-requires : goal.put_piece-end-requires
put_piece-end-requires c =
    let b = c.args.image.bytes.now in
    let ps = c.args.ps.now in
    let i = c.loop-i.i in
    let p = get_or ps (i - 1) 0 in
    let n = next_is b ps p i c.loop-i-test.true c.loop-i.invariant.1 in (
      n.above,
      n.ahead.in_row,
      (shallow_next b ps i c.loop-i-test.true c.loop-i.invariant.0).0,
      written_room b (later_at b ps) c.args.buffer.now c.args.at c.requires.3 ps c.loop-i.buffer p c.loop-i.end i
          c.loop-i.invariant.2 c.loop-i-test.true,
    )

pub loop-i-preserved : goal.loop-i-preserved
loop-i-preserved c =
    let b = c.args.image.bytes.now in
    let ps = c.args.ps.now in
    let i = c.loop-i.i in
    let p = get_or ps (i - 1) 0 in
    let e : i ≡ i + 1 - 1 = omega arith in (
      (shallow_next b ps i c.loop-i-test.true c.loop-i.invariant.0).1,
      subst (λ k. Ahead b (get_or ps k 0) (drop (i + 1) ps)) e (next_is b ps p i c.loop-i-test.true c.loop-i.invariant.1).ahead,
      subst (λ k. Written b (later_at b ps) c.args.buffer.now c.args.at c.put_piece-end.new.buffer (get_or ps k 0)
          c.put_piece-end.result (drop (i + 1) ps)) e
          (written_turn b (later_at b ps) c.args.buffer.now c.args.at c.requires.3 ps c.loop-i.buffer p c.loop-i.end i
          c.loop-i.invariant.2 c.loop-i-test.true c.put_piece-end.new.buffer c.put_piece-end.result
          c.put_piece-end.ensures.0 c.put_piece-end.ensures.1),
    )

pub returns : goal.returns
returns c =
    let b = c.args.image.bytes.now in
    let ps = c.args.ps.now in
    written_end b (later_at b ps) c.args.buffer.now c.args.at c.requires.3 ps c.loop-i.buffer
    (get_or ps (c.loop-i.i - 1) 0) c.loop-i.end c.loop-i.i c.loop-i.invariant.2 c.loop-i-test.false
