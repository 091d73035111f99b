-- "while their level is above h, or is h and they go right".
-- Assumes nothing.
use borrow.Author.Tests.{eq-eqb, ne_eqb}
use Rattle.gateway.proofs.Runs.{keeps-entry}
use Rattle.gateway.proofs.predict.keeps.Goals as goal

pub returns-then-e-eq-DOWN : goal.returns-then-e-eq-DOWN
returns-then-e-eq-DOWN c =
    rw (← c.entry_at-e.ensures.0, keeps-entry c.entry_at-e.result, eq-eqb _ _ c.if-e-eq-DOWN.true)

pub returns-else-e-eq-DOWN : goal.returns-else-e-eq-DOWN
returns-else-e-eq-DOWN c =
    rw (← c.entry_at-e.ensures.0, keeps-entry c.entry_at-e.result, ne_eqb _ _ c.if-e-eq-DOWN.false)
