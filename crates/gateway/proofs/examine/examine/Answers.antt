-- What the screen finds is the finding; where it finds nothing, the label decides.
-- Assumes nothing.
use mathlib.Core.Path.{sym, ap, ◌∙◌}
use Rattle.std.specs.Prelude.{Err}
use Rattle.std.proofs.lemmas.Result.{err_from_is_err_and}
use Rattle.proofbytes.proofs.FormLaws.{form_sized}
use Rattle.gateway.proofs.Screens.{screened-fine, fault-examined, recomputed-examined}
use Rattle.gateway.proofs.examine.examine.Goals as goal

pub returns-in_err-screen : goal.returns-in_err-screen
returns-in_err-screen c =
    let a = c.args in
    let p = err_from_is_err_and c.from_residual.result c.from_residual.ensures.1 in
    p.1 ∙ ap Err p.2 ∙ fault-examined a.s.now a.p a.m a.f (sym c.screen.ensures ∙ c.in_err-screen.was)

pub recompute-requires : goal.recompute-requires
recompute-requires c =
    let a = c.args in
    form_sized a.s.now (screened-fine a.s.now a.p a.m (sym c.screen.ensures ∙ c.in_ok-screen.was)).formed

pub returns : goal.returns
returns c =
    let a = c.args in
    c.recompute.ensures ∙ recomputed-examined a.s.now a.p a.m a.f c.requires
    (screened-fine a.s.now a.p a.m (sym c.screen.ensures ∙ c.in_ok-screen.was))
