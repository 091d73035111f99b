-- Shared entries over merged ones over the new leaf.
-- Assumes nothing.
use Prim.Native.Nat.{◌-◌}
use mathlib.Core.Path.{◌≡◌}
use native.Mathlib.Omega.{arith}
use Rattle.gateway.specs.Parting.{remains_of}
use Rattle.gateway.proofs.Climbs.{taken_all}
use Rattle.gateway.proofs.meeting.remain.Goals as goal

pub returns : goal.returns
unfolding remains_of
returns c =
    let j = c.args.j in
    let e : j - 0 ≡ j = omega arith in
    rw (
      ← c.entry_count-k.ensures,
      ← c.entry_count-l.ensures,
      c.fold.ensures,
      taken_all,
      e,
      c.merge-x.ensures,
      c.min-2.ensures,
      c.min.ensures,
      c.leaf-t.ensures,
      c.stop_side.ensures,
      c.beside_at-c.ensures.0,
      c.entry_at-e.ensures.0,
    )
