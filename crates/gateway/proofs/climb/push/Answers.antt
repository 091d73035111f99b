-- One entry over the side below it, where its kind is asked for.
-- Assumes nothing.
use mathlib.Core.Path.{ap, ◌∙◌}
use Rattle.proofbytes.specs.Reading.{entry_of}
use Rattle.gateway.specs.Climbing.{push_if, takes_downs, takes_rights}
use Rattle.gateway.proofs.Climbs.{push-taken, push_left}
use Rattle.gateway.proofs.climb.push.Goals as goal

pub returns-then-takes : goal.returns-then-takes
returns-then-takes c =
    let a = c.args in
    c.push_entry.ensures ∙ push-taken (takes_downs a.which) (takes_rights a.which) c.entry_at-e.result a.t c.takes.ensures
    c.if-takes.true
    ∙ ap (λ f. push_if (takes_downs a.which) (takes_rights a.which) (entry_of f) a.t) c.entry_at-e.ensures.0

pub returns-else-takes : goal.returns-else-takes
returns-else-takes c =
    let a = c.args in
    push_left (takes_downs a.which) (takes_rights a.which) c.entry_at-e.result a.t c.takes.ensures c.if-takes.false
    ∙ ap (λ f. push_if (takes_downs a.which) (takes_rights a.which) (entry_of f) a.t) c.entry_at-e.ensures.0
