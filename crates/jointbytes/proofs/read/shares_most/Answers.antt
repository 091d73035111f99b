-- `jointbytes::read::shares_most` meets its contract.
-- Assumes nothing.
use native.Mathlib.Omega.{arith}
use mathlib.Core.Path.{refl, ◌∙◌}
use Rattle.jointbytes.proofs.StandLaws.{test_over, test_all, test_none, test_held, test_next}
use Rattle.jointbytes.proofs.read.shares_most.Goals.{then-k-q-2-via-then-k-q-2, then-k-q-2-via-else-k-q-2+then-q-eq0}
use Rattle.jointbytes.proofs.read.shares_most.Goals as goal

pub returns-then-k-q : goal.returns-then-k-q
returns-then-k-q c =
    test_over c.args.s.now c.args.i c.args.k c.args.q c.requires.2 c.requires.3 c.if-k-q.true

pub returns-then-k-q-2 : goal.returns-then-k-q-2
returns-then-k-q-2 c =
    let a = c.args in
    elim c.then-k-q-2.branch [
      | then-k-q-2-via-then-k-q-2 w ↦ test_all a.s.now a.i a.k a.q c.requires.2 c.requires.3 w.if-k-q-2.true
      | then-k-q-2-via-else-k-q-2+then-q-eq0 w ↦ test_none a.s.now a.i a.k a.q c.requires.2 c.requires.3 c.if-k-q.false w.if-q-eq0.true
    ]

pub overflow_sub-at : goal.overflow_sub-at
overflow_sub-at c =
    let h = test_held c.args.s.now c.args.i c.args.k c.args.q c.requires.2 c.requires.3 c.requires.1 c.if-k-q.false c.if-k-q-2.false c.holder-h.ensures in
    omega (arith, h.shares)

pub overflow_mul-at : goal.overflow_mul-at
overflow_mul-at c =
    let h = test_held c.args.s.now c.args.i c.args.k c.args.q c.requires.2 c.requires.3 c.requires.1 c.if-k-q.false c.if-k-q-2.false c.holder-h.ensures in
    omega (arith, h.shares, h.owns, h.fits)

pub overflow_add-at : goal.overflow_add-at
overflow_add-at c =
    let h = test_held c.args.s.now c.args.i c.args.k c.args.q c.requires.2 c.requires.3 c.requires.1 c.if-k-q.false c.if-k-q-2.false c.holder-h.ensures in
    omega (arith, h.shares, h.owns, h.fits)

pub bytes_at-requires : goal.bytes_at-requires
bytes_at-requires c =
    let h = test_held c.args.s.now c.args.i c.args.k c.args.q c.requires.2 c.requires.3 c.requires.1 c.if-k-q.false c.if-k-q-2.false c.holder-h.ensures in
    omega (arith, h.shares, h.owns, h.fits)

pub returns : goal.returns
returns c =
    let q = c.args.q in
    let l = c.if-k-q.false in
    let m = c.if-k-q-2.false in
    let h = test_held c.args.s.now c.args.i c.args.k q c.requires.2 c.requires.3 c.requires.1 l m c.holder-h.ensures in
    c.ne.ensures ∙ test_next c.args.s.now c.args.i c.args.k q c.requires.2 c.requires.3 h l m c.if-q-eq0.false
    (rw (c.bytes_at.ensures, c.bytes_at-2.ensures) refl)
