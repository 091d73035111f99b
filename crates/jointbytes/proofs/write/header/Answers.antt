-- `jointbytes::write::header` meets its contract.
-- Assumes nothing.
use borrow.Author.Rules.{rules}
use Rattle.jointbytes.proofs.WriteLaws.{header_is}
use borrow.Author.Rules.{rules}
use Rattle.jointbytes.proofs.write.header.Goals as goal

pub returns : goal.returns
returns c =
    header_is c.args.d.now c.put_number.new.d c.put_number-2.new.d c.put_number-3.new.d c.args.m c.args.rest (search rules) (search rules)
    c.put_number.ensures c.put_number-2.ensures c.put_number-3.ensures
