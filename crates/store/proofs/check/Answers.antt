-- `store::check` meets its pledge.
-- Assumes nothing.
use Rattle.store.proofs.CheckLaws.{check_done, check_refused}
use Rattle.store.proofs.check.Goals as goal

pub returns-in_default : goal.returns-in_default
returns-in_default c = check_refused _ c.in_default.ensures

pub returns : goal.returns
returns c =
    rw (← c.in-Some.ensures) (check_done c.in-Some.x.bytes.now c.side-root.result c.in-Some.x.good
    (rw c.count.ensures at c.side-root.ensures))
