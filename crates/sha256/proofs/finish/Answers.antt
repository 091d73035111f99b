-- `sha256::finish` takes the whole blocks of the message's last part, then those that end the padded message.
-- Assumes nothing.
use Rattle.sha256.proofs.Hashes.{hashed_finish}
use Rattle.sha256.proofs.finish.Goals as goal

pub returns : goal.returns
returns c =
    λ x q. hashed_finish x c.args.m.now c.args.s c.absorb-v.result c.end_blocks-end.new.t c.each_block.result
    c.args.before c.end_blocks-end.result c.requires.0 q c.absorb-v.ensures c.end_blocks-end.ensures c.each_block.ensures
