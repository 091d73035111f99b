-- The root recomputed in two climbs, and compared.
-- Assumes nothing.
use native.Mathlib.Omega.{arith}
use Rattle.std.proofs.Math.Nat.{min-le_right}
use Rattle.gateway.proofs.Screens.{same-root, other_root}
use Rattle.gateway.proofs.examine.recompute.Goals as goal

pub stop_leaf-requires : goal.stop_leaf-requires
stop_leaf-requires c =
    let z = c.requires in
    omega (arith, z.long, c.entry_count-k.ensures)

pub fold-below-requires : goal.fold-below-requires
fold-below-requires c =
    let z = c.requires in
    (omega (arith, c.min-at.ensures, min-le_right c.args.f c.entry_count-k.result), omega (arith, z.long, c.entry_count-k.ensures))

pub fold-root-requires : goal.fold-root-requires
fold-root-requires c =
    let z = c.requires in
    (omega arith, omega (arith, z.long, c.entry_count-k.ensures, c.min-at.ensures, min-le_right c.args.f c.entry_count-k.result))

pub returns-then-eq : goal.returns-then-eq
returns-then-eq c =
    let a = c.args in
    same-root a.s.now a.m a.f c.entry_count-k.ensures c.min-at.ensures (omega (arith, c.min-at.ensures, min-le_right c.args.f c.entry_count-k.result))
    c.stop_leaf.ensures c.fold-below.ensures c.fold-root.ensures
    c.eq.ensures c.if-eq.true

pub returns-else-eq : goal.returns-else-eq
returns-else-eq c =
    let a = c.args in
    other_root a.s.now a.m a.f c.entry_count-k.ensures c.min-at.ensures
    (omega (arith, c.min-at.ensures, min-le_right c.args.f c.entry_count-k.result)) c.stop_leaf.ensures c.fold-below.ensures c.fold-root.ensures
    c.eq.ensures c.if-eq.false
