-- `sha256::step` is a round with the word that it makes.
-- Assumes nothing.
use Rattle.sha256.proofs.Windows.{stepped}
use Rattle.sha256.proofs.step.Goals as goal

pub returns : goal.returns
returns c b v t g h ek e =
    let a = c.args in
    stepped b v a.x.s a.x.w c.one_round-s.result a.k c.next_word.result t g h ek
    c.next_word.ensures c.one_round-s.ensures e
