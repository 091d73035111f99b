-- `octets::all_zero` meets its contract.
-- Assumes nothing.
use Rattle.std.specs.Prelude.{◌≡◌, ◌↔◌, IsTrue, EachIndex, slice_index}
use Rattle.octets.proofs.RunLaws.{zero_each}
use borrow.Author.Rules.{rules}
use Rattle.octets.proofs.all_zero.Goals as goal

pub returns : goal.returns
returns c =
    let s = c.args.s.now in
    let h : IsTrue c.all.result ↔ EachIndex s (λ k. slice_index s k ≡ 0) = search rules in
    zero_each s c.all.result h.0 h.1
