-- `labels::put_head` meets its contract: three numbers side by side are the seven bytes.
-- Assumes nothing.
use Rattle.labels.proofs.TagLaws.{head_written}
use Rattle.labels.proofs.put_head.Goals as goal

pub returns : goal.returns
returns c =
    head_written c.args.d.now c.put_number.new.d c.put_number-2.new.d c.put_number-3.new.d c.args.time c.args.readings c.requires.0
    c.put_number.ensures c.put_number-2.ensures c.put_number-3.ensures
