-- The kept entries over what is seated below them.
-- Assumes nothing.
use Rattle.gateway.proofs.Seats.{inserted_parts}
use Rattle.gateway.proofs.predict.insert.Goals as goal

pub returns : goal.returns
returns c =
    let a = c.args in
    rw (← c.entry_count-k.ensures, c.fold.ensures, c.seat-t.ensures, c.stop_side.ensures, c.beside_at-b.ensures.0)
    (inserted_parts a.s.now c.entry_count-k.result a.h a.tag c.kept-j.ensures.0)
