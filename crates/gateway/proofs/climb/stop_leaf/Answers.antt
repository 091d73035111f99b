-- The stop's leaf.
-- Assumes nothing.
use Rattle.gateway.proofs.climb.stop_leaf.Goals as goal

pub returns : goal.returns
returns c =
    rw (c.leaf.ensures, c.stop_side.ensures, c.beside_at-b.ensures.0, c.entry_at-e.ensures.0)
