-- The tag at the stop, zeros where own is 0.
-- Assumes nothing.
use native.Mathlib.Omega.{arith}
use Rattle.gateway.proofs.shown.Goals as goal

pub entry_at-e-requires : goal.entry_at-e-requires
entry_at-e-requires c =
    let z = c.requires in
    omega (arith, z.long, c.entry_count.ensures)
