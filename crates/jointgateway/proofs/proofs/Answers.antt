-- `jointgateway::proofs` meets its contract: what is left decides.
-- Assumes nothing.
use native.Mathlib.Omega.{arith}
use lib.ListN.{length, get_or, length-replicate}
use mathlib.Core.Path.{sym, ap, ◌∙◌}
use Prim.Native.Nat.{ℕ, suc}
use Rattle.jointbytes.proofs.Rejoined.{formed}
use Rattle.jointbytes.proofs.StandLaws.{fits_stand}
use Rattle.jointbytes.proofs.PositionLaws.{set_few}
use Rattle.std.specs.Prelude.{Err, is_ok}
use Rattle.std.proofs.Common.{rules}
use Rattle.std.proofs.lemmas.Result.{err_from_is_err_and}
use Rattle.gateway.proofs.Answers.{blamed-ok, blamed-err, examined-side, examined-fault}
use Rattle.jointgateway.specs.Joint.{proof_at}
use Rattle.jointgateway.proofs.SpellLaws.{kept_next}
use Rattle.jointgateway.proofs.LoopLaws.{going_start, all_done, one_refused, one_more}
use native.Mathlib.Numerals.{add-one}
use Rattle.jointbytes.specs.Reading.{piece_of}
use Rattle.jointgateway.proofs.proofs.Goals as goal

pub first-q-requires : goal.first-q-requires
first-q-requires c =
    (formed (length c.args.ps.now) c.args.s.now c.requires.2).head.long

pub loop-i-init : goal.loop-i-init
loop-i-init c =
    going_start c.args.s.now c.args.m c.args.ps.now c.no_side-t.result c.first-q.ensures.0 c.requires.3 c.requires.4

pub piece-q-requires : goal.piece-q-requires
piece-q-requires c =
    let s = c.args.s.now in
    let ps = c.args.ps.now in
    let i = c.loop-i.i in
    let l = c.loop-i-test.true in
    let g = c.loop-i.invariant in
    (fits_stand (length ps) s c.requires.2 i l, (formed (length ps) s c.requires.2).head.long, g.piece)

pub shared_after-requires : goal.shared_after-requires
shared_after-requires c =
    let l = c.loop-i-test.true in
    (c.piece-q.ensures.0, l, c.requires.2)

pub proof-requires : goal.proof-requires
proof-requires c =
    let s = c.args.s.now in
    let ps = c.args.ps.now in
    let i = c.loop-i.i in
    let l = c.loop-i-test.true in
    let g = c.loop-i.invariant in
    let p = c.piece-q.ensures in
    (c.requires.0, p.0, fits_stand (length ps) s c.requires.2 i l, g.work, p.1, g.kept l)

pub overflow_add-place : goal.overflow_add-place
overflow_add-place c =
    omega (arith, set_few c.args.ps.now c.requires.1, c.loop-i-test.true)

pub overflow_cast-place : goal.overflow_cast-place
overflow_cast-place c =
    omega (arith, set_few c.args.ps.now c.requires.1, c.loop-i-test.true)

pub returns-in_err-t : goal.returns-in_err-t
returns-in_err-t c =
    let s = c.args.s.now in
    let ps = c.args.ps.now in
    let m = c.args.m in
    let i = c.loop-i.i in
    let p = err_from_is_err_and c.from_residual.result c.from_residual.ensures.1 in
    let f = blamed-err _ c.map_err.ensures.cases c.in_err-t.was in
    let y = examined-fault (proof_at s i) (get_or ps i 0) m c.shared_after.result c.proof.ensures.0 f.1 in
    let x = one_refused s m ps i c.loop-i.invariant c.loop-i-test.true y (search (f.2, rules)) in
    (p.1 ∙ ap Err p.2 ∙ x.0, λ e. absurd (x.1 (sym (p.1 ∙ ap Err p.2) ∙ e)))

pub put_tag-requires : goal.put_tag-requires
put_tag-requires c =
    let s = c.args.s.now in
    let ps = c.args.ps.now in
    let i = c.loop-i.i in
    let l = c.loop-i-test.true in
    let n = ap length c.requires.4 ∙ length-replicate {A = ℕ} 1024 0 in
    (omega (arith, set_few ps c.requires.1, l, n, c.loop-i.auto.tags), c.piece-q.ensures.0, fits_stand (length ps) s c.requires.2 i l, c.proof.ensures.1 (ap is_ok (blamed-ok _ c.map_err.ensures.cases c.in_ok-t.was)))

pub loop-i-preserved : goal.loop-i-preserved
loop-i-preserved c =
    let s = c.args.s.now in
    let ps = c.args.ps.now in
    let m = c.args.m in
    let i = c.loop-i.i in
    let l = c.loop-i-test.true in
    let w = fits_stand (length ps) s c.requires.2 in
    let y = examined-side (proof_at s i) (get_or ps i 0) m c.shared_after.result c.proof.ensures.0 (blamed-ok _ c.map_err.ensures.cases c.in_ok-t.was) in
    one_more s m ps i c.loop-i.invariant l c.in_ok-t.t (set_few ps c.requires.1) y.0 c.piece-q.ensures.0 (c.proof.ensures.1 (ap is_ok (blamed-ok _ c.map_err.ensures.cases c.in_ok-t.was))) c.put_tag.ensures.0 c.put_tag.ensures.1
    (λ h. kept_next s m i (get_or ps i 0) c.shared_after.result c.in_ok-t.t (w (suc i) (omega (arith, h, add-one i))) c.requires.0 y.0 (c.shared_after.ensures h ∙ ap (λ v. (piece_of s v).shared) (add-one i)) y.1)

pub returns : goal.returns
returns c =
    all_done c.args.s.now c.args.m c.args.ps.now c.loop-i.i c.loop-i.invariant (omega arith)
