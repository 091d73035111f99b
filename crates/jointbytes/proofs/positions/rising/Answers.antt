-- `jointbytes::positions::rising` meets its contract.
-- Assumes nothing.
use Rattle.std.proofs.Common.{rules}
use Rattle.std.proofs.iter.runs.Made.{chains}
use Rattle.jointbytes.proofs.PositionLaws.{rising_is}
use Rattle.jointbytes.proofs.positions.rising.Goals as goal

pub returns : goal.returns
returns c = rising_is c.args.ps.now c.all.result (search (rules, chains))
