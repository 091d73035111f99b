-- One entry over the side below it.
-- Assumes nothing.
use borrow.Author.Tests.{eq-eqb, ne_eqb}
use Rattle.proofbytes.specs.Reading.{entry_of}
use Rattle.gateway.proofs.climb.push_entry.Goals as goal

pub returns-then-e-eq-DOWN : goal.returns-then-e-eq-DOWN
unfolding entry_of
returns-then-e-eq-DOWN c = simp (eq-eqb _ _ c.if-e-eq-DOWN.true) c.push_down.ensures

pub returns-then-e-eq0 : goal.returns-then-e-eq0
unfolding entry_of
returns-then-e-eq0 c =
    simp (ne_eqb _ _ c.if-e-eq-DOWN.false, eq-eqb _ _ c.if-e-eq0.true) c.leaf.ensures

pub returns : goal.returns
unfolding entry_of
returns c =
    simp (ne_eqb _ _ c.if-e-eq-DOWN.false, ne_eqb _ _ c.if-e-eq0.false) c.push_right.ensures
