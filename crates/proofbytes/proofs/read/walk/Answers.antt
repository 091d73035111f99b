-- The walk keeps `Walked`, so it answers what the rules and the sums are.
-- Assumes nothing.
use mathlib.Core.Path.{sym, ◌∙◌}
use native.Mathlib.Omega.{arith}
use Rattle.proofbytes.proofs.Walks.{turn, broke, ended, ended_broken}
use Rattle.proofbytes.proofs.read.walk.Goals as goal

pub returns-in_err-most : goal.returns-in_err-most
returns-in_err-most c =
    let a = c.args in
    c.from_residual.ensures
    ∙ broke a.s.now a.k c.loop-i.i c.loop-i.most c.loop-i.position c.loop-i.rank c.loop-i.invariant
    c.entry_at-e.result (omega arith)
    c.entry_at-e.ensures.0 (sym c.in_err-most.was ∙ c.judge.ensures)

pub loop-i-preserved : goal.loop-i-preserved
loop-i-preserved c =
    let a = c.args in
    turn a.s.now a.k c.loop-i.i c.loop-i.most c.loop-i.position c.loop-i.rank c.loop-i.invariant
    c.entry_at-e.result _ _ (omega arith)
    c.entry_at-e.ensures.0 c.entry_at-e.ensures.1 (sym c.in_ok-most.was ∙ c.judge.ensures)
    c.ahead-position.ensures

pub returns-then-stop_fits : goal.returns-then-stop_fits
returns-then-stop_fits c =
    let a = c.args in
    ended a.s.now a.k c.loop-i.i c.loop-i.most c.loop-i.position c.loop-i.rank c.loop-i.invariant
    c.entry_at-e-2.result c.beside_at-b.result
    (omega arith) c.entry_at-e-2.ensures.0 c.beside_at-b.ensures.0 c.stop_fits.ensures
    c.if-stop_fits.true

pub returns-else-stop_fits : goal.returns-else-stop_fits
returns-else-stop_fits c =
    let a = c.args in
    ended_broken a.s.now a.k c.loop-i.i c.loop-i.most c.loop-i.position c.loop-i.rank c.loop-i.invariant
    c.entry_at-e-2.result c.beside_at-b.result
    (omega arith) c.entry_at-e-2.ensures.0 c.beside_at-b.ensures.0 c.stop_fits.ensures c.if-stop_fits.false
