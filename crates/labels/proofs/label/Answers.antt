-- `labels::label` meets its contract: four digests are written side by side, and the digest of these is taken.
-- Assumes nothing.
use Rattle.std.proofs.Common.{refl, ap, ◌∙◌}
use Rattle.sha256.specs.Hash.{sha256}
use Rattle.labels.proofs.Joins.{four}
use Rattle.labels.proofs.label.Goals as goal

pub returns : goal.returns
returns c =
    c.hashed.ensures
    ∙ ap sha256
    (four _ _ _ _ _ refl c.put_byte.ensures c.put_number.ensures c.put_message.ensures
    c.put_message-2.ensures)
