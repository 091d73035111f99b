-- `jointstore::plan::size` meets its contract: what is summed and the pieces that are left stay together.
-- Assumes nothing.
use native.Mathlib.Omega.{arith}
use Prim.Native.Nat.{◌+◌, ◌-◌}
use mathlib.Core.Path.{◌≡◌, refl, sym, subst, ◌∙◌}
use lib.ListN.{length, drop, get_or}
use Rattle.store.proofs.ProofLaws.{counted}
use Rattle.jointstore.specs.Answers.{joint_at}
use Rattle.jointstore.specs.Passes.{pieces_at}
use Rattle.jointstore.proofs.PositionLaws.{Ahead, asked, next_is}
use Rattle.jointstore.proofs.JointLaws.{size_start, size_turn, size_end}
use Rattle.jointstore.proofs.plan.size.Goals as goal

pub bounds-ps-0 : goal.bounds-ps-0
bounds-ps-0 c =
    omega (arith, (asked c.args.image.bytes.now c.args.ps.now c.requires.0 c.requires.1).some)

pub entries-k-requires : goal.entries-k-requires
entries-k-requires c =
    (asked c.args.image.bytes.now c.args.ps.now c.requires.0 c.requires.1).ahead.in_row

pub loop-i-init : goal.loop-i-init
loop-i-init c =
    let b = c.args.image.bytes.now in
    let ps = c.args.ps.now in
    let o = c.args.image.good in
    let q = asked b ps c.requires.0 c.requires.1 in (
      omega (arith, c.entries-k.ensures.1, c.args.image.few),
      q.ahead,
      size_start b ps c.entries-k.result _ o q
          (c.entries-k.ensures.0 ∙ sym (counted b o (get_or ps 0 0) q.ahead.in_row)) refl,
    )

pub piece-t-requires : goal.piece-t-requires
piece-t-requires c =
    let b = c.args.image.bytes.now in
    let ps = c.args.ps.now in
    let i = c.loop-i.i in
    let n = next_is b ps (get_or ps (i - 1) 0) i c.loop-i-test.true c.loop-i.invariant.1 in
    (n.above, n.ahead.in_row)

pub overflow_add-t-in-loop-i : goal.overflow_add-t-in-loop-i
overflow_add-t-in-loop-i c =
    omega (
      arith,
      c.piece-t.ensures.1,
      c.loop-i-test.true,
      c.loop-i.invariant.0,
      (asked c.args.image.bytes.now c.args.ps.now c.requires.0 c.requires.1).few,
    )

pub loop-i-preserved : goal.loop-i-preserved
loop-i-preserved c =
    let b = c.args.image.bytes.now in
    let ps = c.args.ps.now in
    let i = c.loop-i.i in
    let p = get_or ps (i - 1) 0 in
    let t = c.loop-i.t + c.piece-t.result in
    let e : i ≡ i + 1 - 1 = omega arith in (
      omega (arith, c.piece-t.ensures.1, c.loop-i.invariant.0),
      subst (λ k. Ahead b (get_or ps k 0) (drop (i + 1) ps)) e (next_is b ps p i c.loop-i-test.true c.loop-i.invariant.1).ahead,
      subst (λ k. t + length (pieces_at b (get_or ps k 0) (drop (i + 1) ps)) ≡ length (joint_at b ps)) e
          (size_turn b ps p i c.loop-i.t c.piece-t.result _ c.loop-i-test.true c.loop-i.invariant.2 c.piece-t.ensures.0),
    )

pub returns : goal.returns
returns c =
    let i = c.loop-i.i in
    size_end c.args.image.bytes.now c.args.ps.now (get_or c.args.ps.now (i - 1) 0) i c.loop-i.t _ c.loop-i-test.false
    c.loop-i.invariant.2
