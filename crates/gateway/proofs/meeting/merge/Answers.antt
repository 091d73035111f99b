-- The merge from below keeps `Merged`.
-- Assumes nothing.
use native.Mathlib.Omega.{arith}
use Rattle.gateway.proofs.Merges.{merge_start, first_more, merge_one, second_more, merge_other}
use Rattle.gateway.proofs.Merges.{merge_done}
use Rattle.gateway.proofs.meeting.merge.Goals as goal

pub loop-i-init : goal.loop-i-init
loop-i-init c =
    let a = c.args in
    let p = c.requires in
    merge_start a.a.now a.f a.k a.b.now a.g a.l a.t p.0 p.1

pub lower-requires : goal.lower-requires
lower-requires c =
    (omega (arith, c.loop-i.invariant.i_high), omega (arith, c.loop-i.invariant.j_high))

pub overflow_sub-i : goal.overflow_sub-i
overflow_sub-i c =
    omega (arith, first_more _ _ _ _ _ _ _ _ _ c.loop-i.invariant c.lower.ensures c.if-lower.true)

pub push-x-requires : goal.push-x-requires
push-x-requires c =
    let h = first_more _ _ _ _ _ _ _ _ _ c.loop-i.invariant c.lower.ensures c.if-lower.true in
    omega (arith, h, c.loop-i.invariant.i_high)

pub loop-i-smaller-then-lower : goal.loop-i-smaller-then-lower
loop-i-smaller-then-lower c =
    omega (
      arith,
      first_more _ _ _ _ _ _ _ _ _ c.loop-i.invariant c.lower.ensures
          c.if-lower.true,
    )

pub loop-i-preserved-then-lower : goal.loop-i-preserved-then-lower
loop-i-preserved-then-lower c =
    merge_one _ _ _ _ _ _ _ _ _ c.loop-i.invariant c.lower.ensures c.requires.4 c.if-lower.true
    c.push-x.ensures

pub overflow_sub-j : goal.overflow_sub-j
overflow_sub-j c =
    omega (
      arith,
      second_more _ _ _ _ _ _ _ _ _ c.loop-i.invariant c.lower.ensures c.if-lower.false
          c.loop-i-test.true,
    )

pub push-x-requires-else-lower : goal.push-x-requires-else-lower
push-x-requires-else-lower c =
    let h = second_more _ _ _ _ _ _ _ _ _ c.loop-i.invariant c.lower.ensures c.if-lower.false
    c.loop-i-test.true in
    omega (arith, h, c.loop-i.invariant.j_high)

pub loop-i-smaller : goal.loop-i-smaller
loop-i-smaller c =
    omega (
      arith,
      second_more _ _ _ _ _ _ _ _ _ c.loop-i.invariant c.lower.ensures
          c.if-lower.false c.loop-i-test.true,
    )

pub loop-i-preserved : goal.loop-i-preserved
loop-i-preserved c =
    merge_other _ _ _ _ _ _ _ _ _ c.loop-i.invariant c.lower.ensures c.requires.5 c.if-lower.false
    c.loop-i-test.true c.push-x-else-lower.ensures

pub returns : goal.returns
returns c =
    merge_done _ _ _ _ _ _ _ _ _ c.loop-i.invariant c.loop-i-test.false
