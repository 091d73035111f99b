-- `sha256::words::big_sigma1` is FIPS 180-4's capital sigma 1: its nested rotations are three.
-- Assumes nothing.
use Rattle.std.proofs.Common.{◌^◌, ◌<◌, arith, rules}
use Rattle.sha256.proofs.Rotations.{three_nested}
use Rattle.sha256.proofs.words.big_sigma1.Goals as goal

pub returns : goal.returns
returns c =
    let x = c.args.x in
    let h : x < 2 ^ 32 = search rules in
    cc (three_nested x h 6 5 14 (omega arith))
