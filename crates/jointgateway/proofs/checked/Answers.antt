-- The refusals in their order, then the proofs.
-- Assumes nothing.
use mathlib.Core.Path.{sym, ◌∙◌}
use Rattle.jointgateway.proofs.Answers.{no_metadata, no_set, no_position, no_form, in_form, proved-handed}
use Rattle.jointgateway.proofs.checked.Goals as goal

pub returns-then-m-gt-MOST_BLOCKS : goal.returns-then-m-gt-MOST_BLOCKS
returns-then-m-gt-MOST_BLOCKS c =
    let a = c.args in
    no_metadata a.m a.positions.now a.s.now c.if-m-gt-MOST_BLOCKS.true

pub returns-then-not-is_set : goal.returns-then-not-is_set
returns-then-not-is_set c =
    let a = c.args in
    no_set a.m a.positions.now a.s.now c.if-m-gt-MOST_BLOCKS.false (sym c.is_set.ensures ∙ c.if-not-is_set.true)

pub returns-then-not-within : goal.returns-then-not-within
returns-then-not-within c =
    let a = c.args in
    no_position a.m a.positions.now a.s.now c.if-m-gt-MOST_BLOCKS.false (sym c.is_set.ensures ∙ c.if-not-is_set.false)
    (sym c.within.ensures ∙ c.if-not-within.true)

pub returns-then-not-form : goal.returns-then-not-form
returns-then-not-form c =
    let a = c.args in
    no_form a.m a.positions.now a.s.now c.if-m-gt-MOST_BLOCKS.false (sym c.is_set.ensures ∙ c.if-not-is_set.false)
    (sym c.within.ensures ∙ c.if-not-within.false) (sym c.form.ensures ∙ c.if-not-form.true)

pub returns : goal.returns
returns c =
    let a = c.args in
    proved-handed a.m a.positions.now a.s.now _ c.proofs.ensures.0 c.proofs.ensures.1
    ∙ in_form a.m a.positions.now a.s.now c.if-m-gt-MOST_BLOCKS.false (sym c.is_set.ensures ∙ c.if-not-is_set.false)
    (sym c.within.ensures ∙ c.if-not-within.false) (sym c.form.ensures ∙ c.if-not-form.false)
