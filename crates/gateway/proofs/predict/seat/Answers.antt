-- What stands below the kept entries.
-- Assumes nothing.
use Rattle.gateway.proofs.Seats.{seated_flat, seated_high}
use Rattle.gateway.proofs.predict.seat.Goals as goal

pub returns-then-h-eq0 : goal.returns-then-h-eq0
returns-then-h-eq0 c =
    let a = c.args in
    rw (c.leaf.ensures, c.leaf-x.ensures, c.entry_at-e.ensures.0)
    (seated_flat a.h _ _ _ _ c.if-h-eq0.true)

pub returns : goal.returns
returns c =
    let a = c.args in
    rw (
      c.node.ensures,
      c.fold-high.ensures,
      c.fold-low.ensures,
      c.leaf-c.ensures,
      c.no_side.ensures,
      c.leaf-x.ensures,
      c.entry_at-e.ensures.0,
    )
    (seated_high a.s.now a.j _ a.h _ _ a.b c.if-h-eq0.false)
