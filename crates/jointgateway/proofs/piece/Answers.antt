-- `jointgateway::piece` meets its contract.
-- Assumes nothing.
use native.Mathlib.Omega.{arith}
use lib.ListN.{length}
use mathlib.Core.Path.{◌≡◌, sym, ap, subst, ◌∙◌}
use Prim.Native.Nat.{◌+◌, ◌-◌, ◌≤◌}
use Rattle.jointbytes.specs.Reading.{piece_of, end_of}
use Rattle.jointbytes.proofs.StandLaws.{stands_next, piece-next, shared_first}
use Rattle.jointgateway.proofs.piece.Goals as goal

pub returns-then-i-eq0 : goal.returns-then-i-eq0
returns-then-i-eq0 c =
    let e : c.first.result ≡ piece_of c.args.s.now c.args.i = c.first.ensures.0 ∙ ap (piece_of c.args.s.now) (sym c.if-i-eq0.true) in
    (e, omega (arith, ap (λ x. x.shared) c.first.ensures.0, shared_first c.args.s.now))

pub next-requires : goal.next-requires
next-requires c =
    let s = c.args.s.now in
    subst (λ x. end_of x + 2 ≤ length s) (sym c.requires.2) (stands_next s (c.args.i - 1) c.args.i (omega (arith, c.if-i-eq0.false)) c.requires.0)

pub returns-else-i-eq0 : goal.returns-else-i-eq0
returns-else-i-eq0 c =
    let s = c.args.s.now in
    let n : c.args.i - 1 + 1 ≡ c.args.i = omega (arith, c.if-i-eq0.false) in
    (piece-next s (c.args.i - 1) c.requires.2 c.next.ensures.0 ∙ ap (piece_of s) n, c.next.ensures.2)
