-- The four parts are written side by side.
-- Assumes nothing.
use Rattle.gateway.proofs.SavedLaws.{side_by_side}
use Rattle.gateway.proofs.saved.put_saved.Goals as goal

pub returns : goal.returns
returns c =
    side_by_side c.args.d.now c.args.m c.requires.0 c.requires.1 c.put_number.ensures c.put_number-2.ensures
    c.put_number-3.ensures c.copy.ensures
