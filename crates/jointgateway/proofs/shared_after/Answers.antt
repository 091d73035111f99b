-- `jointgateway::shared_after` meets its contract.
-- Assumes nothing.
use native.Mathlib.Omega.{arith}
use lib.ListN.{length}
use mathlib.Core.Path.{sym, ap, subst}
use Prim.Native.Nat.{◌+◌, ◌≤◌}
use Rattle.jointbytes.specs.Reading.{end_of}
use Rattle.jointbytes.proofs.StandLaws.{fits_stand, stands_next, piece-next}
use Rattle.jointgateway.proofs.shared_after.Goals as goal

pub next-requires : goal.next-requires
next-requires c =
    let s = c.args.s.now in
    subst (λ x. end_of x + 2 ≤ length s) (sym c.requires.0)
    (stands_next s c.args.i (c.args.i + 1) (omega arith) (fits_stand c.args.n s c.requires.2 (c.args.i + 1) (omega (arith, c.if-n-i-lt2.false))))

pub returns-else-n-i-lt2 : goal.returns-else-n-i-lt2
returns-else-n-i-lt2 c =
    λ _. ap (λ x. x.shared) (piece-next c.args.s.now c.args.i c.requires.0 c.next.ensures.0)
