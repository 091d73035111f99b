-- `jointgateway::proof` meets its contract: spelled out, then checked as a single one.
-- Assumes nothing.
use native.Mathlib.Omega.{arith}
use lib.ListN.{length, take, drop}
use mathlib.Core.Path.{◌≡◌, sym, ap, subst, ◌∙◌}
use Prim.Native.Nat.{◌+◌, ◌-◌, ◌*◌, ◌≤◌}
use Rattle.octets.specs.Runs.{part}
use Rattle.jointbytes.specs.Reading.{end_of}
use Rattle.jointbytes.proofs.StandLaws.{stands-end}
use Rattle.gateway.specs.Working.{kept_of, examined_of}
use Rattle.jointgateway.specs.Joint.{proof_at}
use Rattle.jointgateway.specs.Working.{KeptIn}
use Rattle.jointgateway.proofs.SpellLaws.{spelled_out, too_long, length-proof, count_is, before_size, kept_in}
use Rattle.jointgateway.proofs.proof.Goals as goal
use Rattle.skiplist.proofs.Cases.{never}

pub overflow_add-k : goal.overflow_add-k
overflow_add-k c =
    let s = c.args.s.now in
    let i = c.args.i in
    let q = c.args.q in
    let n = count_is s i {q = q} c.requires.2 c.requires.1 in
    omega (arith, subst (λ x. end_of x ≤ length s) (sym c.requires.1) (stands-end s i c.requires.2), c.requires.4)

pub returns-then-k-gt-MOST_ENTRIES : goal.returns-then-k-gt-MOST_ENTRIES
unfolding examined_of
returns-then-k-gt-MOST_ENTRIES c =
    let s = c.args.s.now in
    let i = c.args.i in
    let q = c.args.q in
    let n = count_is s i {q = q} c.requires.2 c.requires.1 in
    let f = too_long s i c.args.p c.args.m c.requires.2 (omega (arith, n, c.if-k-gt-MOST_ENTRIES.true)) in
    (ap (λ x. kept_of x (proof_at s i) c.args.f) (sym f), λ e. never cc)

pub spell-requires : goal.spell-requires
spell-requires c =
    let s = c.args.s.now in
    let i = c.args.i in
    let q = c.args.q in
    let n = count_is s i {q = q} c.requires.2 c.requires.1 in
    (before_size c.args.work.now s i c.requires.3, c.if-k-gt-MOST_ENTRIES.false, subst (λ x. end_of x ≤ length s) (sym c.requires.1) (stands-end s i c.requires.2))

pub slice_bounds-look-end : goal.slice_bounds-look-end
slice_bounds-look-end c =
    let s = c.args.s.now in
    let i = c.args.i in
    let q = c.args.q in
    let n = count_is s i {q = q} c.requires.2 c.requires.1 in
    let o = spelled_out c.args.work.now s i q c.requires.3 c.requires.2 c.requires.1 c.if-k-gt-MOST_ENTRIES.false c.spell.ensures in
    omega (arith, o.size, c.if-k-gt-MOST_ENTRIES.false)

pub look-requires : goal.look-requires
unfolding part
look-requires c =
    let s = c.args.s.now in
    let i = c.args.i in
    let q = c.args.q in
    let n = count_is s i {q = q} c.requires.2 c.requires.1 in
    let o = spelled_out c.args.work.now s i q c.requires.3 c.requires.2 c.requires.1 c.if-k-gt-MOST_ENTRIES.false c.spell.ensures in
    let z : (3 + 38 * (q.shared + q.own) + 74) - 0 ≡ length (proof_at s i) = omega (arith, length-proof s i c.requires.2, n) in
    let b : take ((3 + 38 * (q.shared + q.own) + 74) - 0) (drop 0 c.spell.new.work) ≡ proof_at s i = ap (λ x. take x c.spell.new.work) z ∙ o.bytes in
    (c.requires.0, subst (λ x. KeptIn x c.args.m i q.shared c.args.t) (sym b) (kept_in s c.args.m i q c.args.t c.requires.2 c.requires.1 c.requires.5))

pub returns : goal.returns
unfolding part
returns c =
    let s = c.args.s.now in
    let i = c.args.i in
    let q = c.args.q in
    let n = count_is s i {q = q} c.requires.2 c.requires.1 in
    let o = spelled_out c.args.work.now s i q c.requires.3 c.requires.2 c.requires.1 c.if-k-gt-MOST_ENTRIES.false c.spell.ensures in
    let z : (3 + 38 * (q.shared + q.own) + 74) - 0 ≡ length (proof_at s i) = omega (arith, length-proof s i c.requires.2, n) in
    let b : take ((3 + 38 * (q.shared + q.own) + 74) - 0) (drop 0 c.spell.new.work) ≡ proof_at s i = ap (λ x. take x c.spell.new.work) z ∙ o.bytes in
    (c.look.ensures ∙ rw b, λ _. o)
