-- Form, position and rank, in this order; nothing is hashed.
-- Assumes nothing.
use mathlib.Core.Path.{◌≡◌, refl, sym, ap, ◌∙◌}
use native.Mathlib.Omega.{arith}
use Rattle.std.specs.Prelude.{Err, Option, ok_or}
use Rattle.std.proofs.lemmas.Result.{err_from_is_err_and, IfErr-at_err}
use Rattle.proofbytes.specs.declared.read.Proven.{Proven}
use Rattle.gateway.specs.declared.examine.Fault.{Fault}
use Rattle.gateway.specs.declared.examine.Fault.TheVariants.{Misread}
use Rattle.gateway.proofs.Screens.{misread, sound_sized, far, unowned, miscounted, screened}
use Rattle.gateway.proofs.examine.screen.Goals as goal

pub returns-then-position-p : goal.returns-then-position-p
returns-then-position-p c =
    let a = c.args in
    far a.s.now a.p a.m _ _ c.form.ensures c.in_ok-position.ensures.ok_part c.if-position-p.true

pub entry_at-e-requires : goal.entry_at-e-requires
entry_at-e-requires c =
    let a = c.args in
    let z = sound_sized a.s.now a.p a.m _ _ c.form.ensures c.in_ok-position.ensures.ok_part in
    omega (arith, z.long, c.entry_count.ensures)

pub returns : goal.returns
returns c =
    let a = c.args in
    screened a.s.now a.p a.m _ _ c.form.ensures c.in_ok-position.ensures.ok_part c.if-position-p.false
    c.entry_at-e.result
    (c.entry_at-e.ensures.0 ∙ rw c.entry_count.ensures) c.own_fits.ensures
    (c.if-not-own_fits.false) c.if-rank-m.false

pub returns-then-not-own_fits : goal.returns-then-not-own_fits
returns-then-not-own_fits c =
    let a = c.args in
    unowned a.s.now a.p a.m _ _ c.form.ensures c.in_ok-position.ensures.ok_part c.if-position-p.false
    c.entry_at-e.result
    (c.entry_at-e.ensures.0 ∙ rw c.entry_count.ensures) c.own_fits.ensures (c.if-not-own_fits.true)

pub returns-then-rank-m : goal.returns-then-rank-m
returns-then-rank-m c =
    let a = c.args in
    miscounted a.s.now a.p a.m _ _ c.form.ensures c.in_ok-position.ensures.ok_part c.if-position-p.false
    c.entry_at-e.result
    (c.entry_at-e.ensures.0 ∙ rw c.entry_count.ensures) c.own_fits.ensures
    (c.if-not-own_fits.false) c.if-rank-m.true

pub returns-in_err-position : goal.returns-in_err-position
returns-in_err-position c =
    let a = c.args in
    let p = err_from_is_err_and c.from_residual.result c.from_residual.ensures.1 in
    let none = c.in_err-position.ensures.ok_part in
    let told = c.in_err-position.ensures.value ∙ ap (λ (o : Option Proven). ok_or o Misread) none in
    p.1 ∙ ap Err (p.2 ∙ IfErr-at_err (λ (y : Fault). y ≡ Misread) (sym told) refl)
    ∙ misread a.s.now a.p a.m c.form.ensures none
