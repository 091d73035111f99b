-- `jointgateway::put_tag` meets its contract.
-- Assumes nothing.
use native.Mathlib.Omega.{arith}
use lib.ListN.{length, take, drop}
use mathlib.Core.Path.{◌≡◌, sym, ap, subst, ◌∙◌}
use Prim.Native.Nat.{◌+◌, ◌-◌, ◌*◌}
use borrow.Author.Rules.{rules}
use Rattle.octets.specs.Runs.{part}
use Rattle.skiplist.specs.Blocks.{shown}
use Rattle.proofbytes.specs.Reading.{Sized, place_of}
use Rattle.jointgateway.specs.Joint.{proof_at}
use Rattle.jointgateway.proofs.SpellLaws.{length-proof, count_is, sized}
use borrow.Author.Rules.{rules}
use Rattle.jointgateway.proofs.put_tag.Goals as goal

pub overflow_add-k : goal.overflow_add-k
overflow_add-k c =
    let s = c.args.s.now in
    let i = c.args.i in
    let q = c.args.q in
    let o = c.requires.3 in
    let n = count_is s i {q = q} c.requires.2 c.requires.1 in
    omega (arith, n, o.few, o.size)

pub overflow_mul-k : goal.overflow_mul-k
overflow_mul-k c =
    let s = c.args.s.now in
    let i = c.args.i in
    let q = c.args.q in
    let o = c.requires.3 in
    let n = count_is s i {q = q} c.requires.2 c.requires.1 in
    omega (arith, n, o.few, o.size)

pub overflow_add-k-2 : goal.overflow_add-k-2
overflow_add-k-2 c =
    let s = c.args.s.now in
    let i = c.args.i in
    let q = c.args.q in
    let o = c.requires.3 in
    let n = count_is s i {q = q} c.requires.2 c.requires.1 in
    omega (arith, n, o.few, o.size)

pub overflow_add-k-3 : goal.overflow_add-k-3
overflow_add-k-3 c =
    let s = c.args.s.now in
    let i = c.args.i in
    let q = c.args.q in
    let o = c.requires.3 in
    let n = count_is s i {q = q} c.requires.2 c.requires.1 in
    omega (arith, n, o.few, o.size)

pub slice_bounds-shown-end : goal.slice_bounds-shown-end
slice_bounds-shown-end c =
    let s = c.args.s.now in
    let i = c.args.i in
    let q = c.args.q in
    let o = c.requires.3 in
    let n = count_is s i {q = q} c.requires.2 c.requires.1 in
    omega (arith, n, o.few, o.size)

pub shown-tag-requires : goal.shown-tag-requires
unfolding part
shown-tag-requires c =
    let s = c.args.s.now in
    let i = c.args.i in
    let q = c.args.q in
    let o = c.requires.3 in
    let n = count_is s i {q = q} c.requires.2 c.requires.1 in
    let z : (3 + 38 * (q.shared + q.own) + 74) - 0 ≡ length (proof_at s i) = omega (arith, length-proof s i c.requires.2, n) in
    let b : take ((3 + 38 * (q.shared + q.own) + 74) - 0) (drop 0 c.args.work.now) ≡ proof_at s i = ap (λ x. take x c.args.work.now) z ∙ o.bytes in
    subst (λ x. Sized x) (sym b) (sized s i c.requires.2 o.few)

pub returns : goal.returns
unfolding part
returns c =
    let s = c.args.s.now in
    let i = c.args.i in
    let q = c.args.q in
    let o = c.requires.3 in
    let n = count_is s i {q = q} c.requires.2 c.requires.1 in
    let z : (3 + 38 * (q.shared + q.own) + 74) - 0 ≡ length (proof_at s i) = omega (arith, length-proof s i c.requires.2, n) in
    let b : take ((3 + 38 * (q.shared + q.own) + 74) - 0) (drop 0 c.args.work.now) ≡ proof_at s i = ap (λ x. take x c.args.work.now) z ∙ o.bytes in
    let l : length c.shown-tag.result ≡ 32 = search rules in
    let d : c.shown-tag.result ≡ shown (place_of (proof_at s i)).item = c.shown-tag.ensures ∙ rw b in
    (c.copy.ensures ∙ rw d, sym (ap length d) ∙ l)
