-- `proofbytes::write::stop` meets its contract.
-- Assumes nothing.
use Rattle.proofbytes.proofs.WriteLaws.{stop_is}
use Rattle.proofbytes.proofs.write.stop.Goals as goal

pub returns : goal.returns
returns c =
    stop_is c.args.d.now c.entry.new.d c.put_number.new.d c.copy.new.d c.args.tag
    c.args.label c.args.own
    c.args.rank c.requires c.well_formed.1.1.0.1.0.1 c.well_formed.1.1.1.1.0.1.0.1 c.entry.ensures
    c.put_number.ensures
    c.copy.ensures
