-- `proofbytes::write::entry` meets its contract.
-- Assumes nothing.
use Rattle.proofbytes.proofs.WriteLaws.{entry_is}
use borrow.Author.Rules.{rules}
use Rattle.proofbytes.proofs.write.entry.Goals as goal

pub returns : goal.returns
returns c =
    entry_is c.args.d.now c.put_number.new.d c.put_number-2.new.d c.put_number-3.new.d c.copy.new.d
    c.args.bytes
    c.args.kind c.args.level c.args.rank c.requires c.well_formed.1.1.1.1.0.1.0.1 (search rules)
    (search rules)
    c.put_number.ensures c.put_number-2.ensures c.put_number-3.ensures c.copy.ensures
