-- `times::place` meets its contract: what stands before the place is not later, and what stands there is.
-- Assumes nothing.
use Rattle.std.proofs.Common.{rules}
use Rattle.times.proofs.PlaceLaws.{place_first}
use Rattle.times.proofs.place.Goals as goal

pub returns : goal.returns
returns c = place_first c.args.times.now c.args.time c.unwrap_or.result (search rules) (search rules) (search rules)
