-- `store::plan::planned_edit` meets its contract: what the admission says goes before the rest.
-- Assumes nothing.
use mathlib.Core.Path.{◌≡◌, sym, ap, ◌∙◌}
use Rattle.std.specs.Prelude.{Err, is_ok}
use Rattle.std.proofs.lemmas.Option.{MatchOption-at_some}
use Rattle.std.proofs.lemmas.Result.{err_from_is_err_and}
use Rattle.archive.specs.declared.image.Image.{Image}
use Rattle.store.specs.Passes.{refused_edit, applied_or}
use Rattle.store.proofs.ApplyLaws.{admission_is, edit_not_admitted}
use Rattle.store.proofs.plan.planned_edit.Goals as goal

pub returns-in_err-admitted : goal.returns-in_err-admitted
returns-in_err-admitted c =
    let x = c.in_ok-image.image in
    let same = MatchOption-at_some _ (λ (y : Image). y.bytes.now ≡ c.args.b.now) x c.in_ok-image.ensures.ok_part c.new.ensures in
    let p = err_from_is_err_and c.from_residual-in_err-admitted.result c.from_residual-in_err-admitted.ensures.1 in
    ap applied_or (p.1 ∙ ap Err p.2)
    ∙ ap refused_edit (sym c.in_err-admitted.was)
    ∙ rw (← same)
    (edit_not_admitted _ _ x.good c.admitted.result (rw c.count-n.ensures at c.admitted.ensures)
    (ap is_ok c.in_err-admitted.was))

pub repeats-requires : goal.repeats-requires
repeats-requires c =
    (admission_is _ _ _ (rw c.count-n.ensures at c.admitted.ensures) (ap is_ok c.in_ok-admitted.was)).within
