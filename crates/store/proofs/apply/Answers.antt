-- `store::apply` meets its pledge.
-- Assumes nothing.
use mathlib.Core.Path.{sym, ◌∙◌}
use Rattle.archive.proofs.SoundLaws.{sound_is}
use Rattle.store.proofs.ApplyLaws.{planned_edit, editable, apply_done, apply_refused}
use Rattle.store.proofs.apply.Goals as goal

pub header-x-requires : goal.header-x-requires
header-x-requires c =
    (sound_is _ (editable _ _ (planned_edit _ _ c.edit-t.result c.edit-t.ensures
    (sym c.is_ok.ensures.value ∙ c.if-is_ok.true))).good).frame.long

pub edit-requires : goal.edit-requires
edit-requires c =
    let v = planned_edit _ _ c.edit-t.result c.edit-t.ensures (sym c.is_ok.ensures.value ∙ c.if-is_ok.true) in
    (record { good = (editable _ _ v).good; header = c.header-x.ensures.0 }, v)

pub returns-then-is_ok : goal.returns-then-is_ok
returns-then-is_ok c =
    apply_done _ _ c.edit-t.result _ c.edit-t.ensures (sym c.is_ok.ensures.value ∙ c.if-is_ok.true)
    c.edit.ensures

pub returns-else-is_ok : goal.returns-else-is_ok
returns-else-is_ok c =
    apply_refused _ _ c.edit-t.result c.edit-t.ensures (sym c.is_ok.ensures.value ∙ c.if-is_ok.false)
