-- 12, 2, 3 and 4, then the proofs.
-- Assumes nothing.
use Rattle.std.specs.Prelude.{Err}
use mathlib.Core.Path.{sym, ap, ◌∙◌}
use Rattle.std.proofs.lemmas.Result.{err_from_is_err_and}
use Rattle.gateway.specs.Working.{answer_with}
use Rattle.gateway.proofs.Answers.{opening-worked, opening-refused}
use Rattle.gateway.proofs.checked.Goals as goal

pub returns-in_err-opened : goal.returns-in_err-opened
returns-in_err-opened c =
    let a = c.args in
    let p = err_from_is_err_and c.from_residual.result c.from_residual.ensures.1 in
    ap (answer_with a.m) (p.1 ∙ ap Err p.2)
    ∙ opening-refused a.m a.k a.first.now a.second.now (sym c.opened.ensures ∙ c.in_err-opened.was)

pub returns : goal.returns
returns c =
    let a = c.args in
    c.work.ensures ∙ opening-worked a.m a.k a.first.now a.second.now (sym c.opened.ensures ∙ c.in_ok-opened.was)
