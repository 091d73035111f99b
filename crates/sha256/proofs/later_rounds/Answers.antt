-- `sha256::later_rounds` is rounds 16 to 63. Before the turn i the window stands before round i * 16.
-- Assumes nothing.
use Rattle.std.proofs.Common.{◌≡◌, ◌+◌, ◌*◌, arith}
use Rattle.sha256.proofs.later_rounds.Goals as goal

pub loop-i-init : goal.loop-i-init
loop-i-init c = (omega arith, omega arith, λ b v e. e)

pub sixteen_rounds-x-requires : goal.sixteen_rounds-x-requires
sixteen_rounds-x-requires c = (omega arith, omega arith)

pub loop-i-preserved : goal.loop-i-preserved
loop-i-preserved c =
    let n : c.loop-i.i * 16 + 16 ≡ (c.loop-i.i + 1) * 16 = omega arith in
    (omega arith, omega arith, λ b v e. rw n at (c.sixteen_rounds-x.ensures b v (c.loop-i.invariant.2 b v e)))

pub returns : goal.returns
returns c b v e =
    let z : c.loop-i.i ≡ 4 = omega arith in
    (rw z at (c.loop-i.invariant.2 b v e)).variables
