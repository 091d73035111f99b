-- `labels::hashed` meets its contract: a message that is not long is not refused.
-- Assumes nothing.
use Rattle.sha256.proofs.Answers.{answered}
use Rattle.labels.proofs.hashed.Goals as goal

pub returns : goal.returns
returns c =
    (answered c.args.m.now _ c.digest.ensures c.requires).1
