-- "Below it the first has only right entries, the second only down entries."
-- Assumes nothing.
use mathlib.Core.Path.{sym, ◌∙◌}
use Rattle.gateway.specs.Parting.{only_of, only_from}
use Rattle.gateway.proofs.meeting.only_below.Goals as goal

pub returns-then-only : goal.returns-then-only
unfolding only_of only_from
returns-then-only c =
    rw (
      ← c.min.ensures,
      sym c.only.ensures ∙ c.if-only.true,
      ← c.min-then-only.ensures,
    ) c.only-then-only.ensures

pub returns-else-only : goal.returns-else-only
unfolding only_of only_from
returns-else-only c =
    rw (← c.min.ensures, sym c.only.ensures ∙ c.if-only.false) c.if-only.false
