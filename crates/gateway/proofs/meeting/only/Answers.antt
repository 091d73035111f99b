-- Entries of one kind only.
-- Assumes nothing.
use mathlib.Core.Path.{◌∙◌}
use native.Mathlib.Omega.{arith}
use Rattle.gateway.proofs.Runs.{only_more, only-not, only_none}
use Rattle.gateway.proofs.meeting.only.Goals as goal

pub returns-then-not-fits : goal.returns-then-not-fits
returns-then-not-fits c =
    let a = c.args in
    only-not a.s.now a.downs c.loop-i.i a.to (omega arith) c.fits.ensures c.if-not-fits.true
    ∙ c.loop-i.invariant

pub loop-i-preserved : goal.loop-i-preserved
loop-i-preserved c =
    let a = c.args in
    only_more a.s.now a.downs c.loop-i.i a.to (omega arith) c.fits.ensures c.if-not-fits.false ∙ c.loop-i.invariant

pub returns : goal.returns
returns c =
    let a = c.args in
    only_none a.s.now a.downs c.loop-i.i _ (omega arith) ∙ c.loop-i.invariant
