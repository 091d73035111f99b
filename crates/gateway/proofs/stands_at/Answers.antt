-- The command's tag against the one at the stop.
-- Assumes nothing.
use mathlib.Core.Path.{ap, ◌∙◌}
use Rattle.skiplist.specs.Commands.{repeats_at}
use Rattle.gateway.proofs.stands_at.Goals as goal

pub returns : goal.returns
returns c = let a = c.args in c.repeated.ensures ∙ ap (repeats_at a.p a.tag) c.shown.ensures
