-- `sha256::finish_both`: the block that both parts have bytes in is one more whole block, and what is left of the second is the last part.
-- Assumes nothing.
use Rattle.std.proofs.Common.{◌≡◌, ◌-◌, ◌++◌, length, take, ap, ◌∙◌, arith, length-append, length-take-le}
use Rattle.sha256.specs.Hash.{hash_value}
use Rattle.sha256.proofs.Hashes.{after_block, both_parts}
use Rattle.sha256.proofs.finish_both.Goals as goal

pub returns-then-b-cut : goal.returns-then-b-cut
returns-then-b-cut c = c.finish_short.ensures

pub returns : goal.returns
returns c =
    let a = c.args.a.now in
    let b = c.args.b.now in
    let k = 64 - length a in
    let l : length (a ++ take (k - 0) b) ≡ 64 =
    length-append a (take (k - 0) b) ∙ omega (arith, length-take-le (k - 0) b (omega arith)) in
    λ x q.
    c.finish.ensures (x ++ (a ++ take (k - 0) b))
    (after_block x (a ++ take (k - 0) b) c.args.s c.shared_block-next.result c.args.before c.requires.0 l q c.shared_block-next.ensures)
    ∙ ap hash_value (both_parts x a b k c.if-b-cut.false)
