-- `labels::tag` meets its contract: readings that are too long are refused, others hashed after their seven bytes.
-- Assumes nothing.
use Rattle.std.proofs.Common.{sym}
use Rattle.labels.proofs.TagLaws.{tag-refused, tagged, as_tag}
use Rattle.labels.proofs.tag.Goals as goal

pub returns-then-readings-gt-MOST_READINGS : goal.returns-then-readings-gt-MOST_READINGS
returns-then-readings-gt-MOST_READINGS c =
    as_tag c.args.time c.args.readings.now _ (sym (tag-refused c.args.time c.args.readings.now c.if-readings-gt-MOST_READINGS.true))

pub returns : goal.returns
returns c =
    tagged c.args.time c.args.readings.now c.put_head.new.d c.hashed_joined.result c.if-readings-gt-MOST_READINGS.false
    c.put_head.ensures c.hashed_joined.ensures
