-- `labels::hashed_joined` meets its contract: two parts that are not long together are not refused.
-- Assumes nothing.
use Rattle.std.proofs.Common.{◌++◌, length-append}
use Rattle.sha256.proofs.Answers.{answered}
use Rattle.labels.proofs.hashed_joined.Goals as goal

pub returns : goal.returns
returns c =
    let a = c.args in
    (answered (a.first.now ++ a.second.now) _ c.digest_joined.ensures
    (rw (length-append a.first.now a.second.now) c.requires)).1
