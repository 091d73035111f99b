-- 12, then 2, 3 and 4.
-- Assumes nothing.
use mathlib.Core.Path.{sym, ◌∙◌}
use borrow.Author.Tests.{lt-ltb, le-ltb}
use Rattle.gateway.proofs.Answers.{over_count, within_count}
use Rattle.gateway.proofs.opened.Goals as goal

pub returns-then-m-gt-MOST_BLOCKS : goal.returns-then-m-gt-MOST_BLOCKS
returns-then-m-gt-MOST_BLOCKS c = let a = c.args in sym (over_count a.m a.k (lt-ltb _ _ c.if-m-gt-MOST_BLOCKS.true))

pub returns : goal.returns
returns c =
    let a = c.args in
    c.admitted.ensures ∙ sym (within_count a.m a.k (le-ltb _ _ c.if-m-gt-MOST_BLOCKS.false))
