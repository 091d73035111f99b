-- `store::runs::side` meets its contract.
-- Assumes nothing.
use Rattle.store.proofs.RunLaws.{side_is}
use Rattle.store.proofs.runs.side.Goals as goal

pub returns : goal.returns
returns c =
    side_is c.args.image.bytes.now c.args.image.good c.args.i c.args.m c.columns-s.result c.leaf-t.result
    c.sealed.result _
    c.requires.0 c.requires.1 c.columns-s.ensures c.leaf-t.ensures c.sealed.ensures
