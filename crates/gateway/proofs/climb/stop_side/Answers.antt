-- The stop's right side, empty where its rank is 0.
-- Assumes nothing.
use borrow.Author.Tests.{eq-eqb, ne_eqb}
use Rattle.gateway.specs.Climbing.{stop_side_of}
use Rattle.gateway.proofs.climb.stop_side.Goals as goal

pub returns-then-b-eq0 : goal.returns-then-b-eq0
unfolding stop_side_of
returns-then-b-eq0 c = simp (eq-eqb _ _ c.if-b-eq0.true) c.no_side.ensures

pub returns-else-b-eq0 : goal.returns-else-b-eq0
unfolding stop_side_of
returns-else-b-eq0 c = rw (ne_eqb _ _ c.if-b-eq0.false)
