-- `jointbytes::read::later_fit` meets its contract: what is left decides.
-- Assumes nothing.
use native.Mathlib.Omega.{arith}
use lib.Dec.{eqb}
use lib.ListN.{length}
use mathlib.Core.Path.{ap, ◌∙◌}
use Rattle.jointbytes.proofs.StandLaws.{reached_first, reached_end, short, is_at, broken, fewer, onward, reached_all}
use Rattle.jointbytes.proofs.read.later_fit.Goals.{then-not-stands-via-then-not-stands}
use Rattle.jointbytes.proofs.read.later_fit.Goals.{then-not-stands-via-else-not-stands+then-not-shares_most}
use Rattle.jointbytes.proofs.read.later_fit.Goals as goal

pub loop-i-init : goal.loop-i-init
loop-i-init c =
    reached_first c.args.s.now c.args.m c.requires.1 c.first-q.ensures.0

pub end-requires : goal.end-requires
end-requires c =
    let s = c.args.s.now in
    let t = c.loop-i.auto.i in
    let r = c.loop-i.invariant in
    reached_end s c.args.m c.loop-i.i t r r.stands

pub overflow_sub-s : goal.overflow_sub-s
overflow_sub-s c =
    let s = c.args.s.now in
    let t = c.loop-i.auto.i in
    let r = c.loop-i.invariant in
    omega (arith, c.end.ensures, reached_end s c.args.m c.loop-i.i t r r.stands)

pub returns-then-s-end-lt-SHARED : goal.returns-then-s-end-lt-SHARED
returns-then-s-end-lt-SHARED c =
    let s = c.args.s.now in
    let t = c.loop-i.auto.i in
    let r = c.loop-i.invariant in
    short s c.args.m c.loop-i.i t r (omega arith) (omega (arith, c.end.ensures, c.if-s-end-lt-SHARED.true, reached_end s c.args.m c.loop-i.i t r r.stands))

pub returns-then-not-stands : goal.returns-then-not-stands
returns-then-not-stands c =
    let s = c.args.s.now in
    let t = c.loop-i.auto.i in
    let r = c.loop-i.invariant in
    let b = reached_end s c.args.m c.loop-i.i t r r.stands in
    elim c.then-not-stands.branch [
      | then-not-stands-via-then-not-stands w ↦
          broken s c.args.m c.loop-i.i t r (omega arith) (omega (arith, c.end.ensures, c.if-s-end-lt-SHARED.false, b)) c.next-q.ensures.0 c.stands.ensures w.if-not-stands.true
      | then-not-stands-via-else-not-stands+then-not-shares_most w ↦
          fewer s c.args.m c.loop-i.i t r (omega arith) (omega (arith, c.end.ensures, c.if-s-end-lt-SHARED.false, b)) c.next-q.ensures.0 c.stands.ensures w.if-not-stands.false
          w.shares_most.ensures w.if-not-shares_most.true
    ]

pub shares_most-requires : goal.shares_most-requires
shares_most-requires c =
    let s = c.args.s.now in
    let t = c.loop-i.auto.i in
    let r = c.loop-i.invariant in
    (c.requires.0, r.stands, r.count, is_at s c.args.m c.loop-i.i t r (omega arith) c.next-q.ensures.0, c.next-q.ensures.1)

pub loop-i-preserved : goal.loop-i-preserved
loop-i-preserved c =
    let s = c.args.s.now in
    let t = c.loop-i.auto.i in
    let r = c.loop-i.invariant in
    onward s c.args.m c.loop-i.i t r (omega arith) (omega (arith, c.end.ensures, c.if-s-end-lt-SHARED.false, reached_end s c.args.m c.loop-i.i t r r.stands)) c.next-q.ensures.0 c.stands.ensures (c.if-not-stands.false) c.shares_most.ensures (c.if-not-shares_most.false)

pub end-requires-2 : goal.end-requires-2
end-requires-2 c =
    let s = c.args.s.now in
    let t = c.loop-i.auto.i in
    let r = c.loop-i.invariant in
    reached_end s c.args.m c.loop-i.i t r r.stands

pub returns : goal.returns
returns c =
    let s = c.args.s.now in
    let t = c.loop-i.auto.i in
    let r = c.loop-i.invariant in
    ap (λ x. eqb x (length s)) c.end-2.ensures ∙ reached_all s c.args.m c.loop-i.i t r (omega arith)
