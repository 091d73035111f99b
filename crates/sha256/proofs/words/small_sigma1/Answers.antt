-- `sha256::words::small_sigma1` is FIPS 180-4's small sigma 1: its nested rotations are two.
-- Assumes nothing.
use Rattle.std.proofs.Common.{◌^◌, ◌<◌, arith, rules}
use Rattle.sha256.proofs.Rotations.{two_nested}
use Rattle.sha256.proofs.words.small_sigma1.Goals as goal

pub returns : goal.returns
returns c =
    let x = c.args.x in
    let h : x < 2 ^ 32 = search rules in
    cc (two_nested x h 17 2 (omega arith))
