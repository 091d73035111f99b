-- The entries over the stop's leaf with the new tag.
-- Assumes nothing.
use Prim.Native.Nat.{◌-◌}
use mathlib.Core.Path.{◌≡◌}
use native.Mathlib.Omega.{arith}
use Rattle.gateway.proofs.Climbs.{taken_all}
use Rattle.gateway.proofs.predict.replace.Goals as goal

pub returns : goal.returns
returns c =
    let k = c.entry_count-k.result in
    let e : k - 0 ≡ k = omega arith in
    rw (← c.entry_count-k.ensures, c.fold.ensures, taken_all, e, c.leaf-t.ensures, c.stop_side.ensures, c.beside_at-b.ensures.0)
