-- `octets::copy` meets its contract: after i turns the first i bytes of s are written.
-- Assumes nothing.
use native.Mathlib.Nat.{zero-add}
use native.Mathlib.Numerals.{add-one}
use native.Mathlib.Omega.{arith}
use mathlib.Core.Path.{◌≡◌, sym, ap, ◌∙◌}
use Prim.Native.Nat.{ℕ, ◌+◌}
use lib.ListN.{length, get_or}
use Rattle.octets.specs.Runs.{part}
use Rattle.octets.proofs.PatchLaws.{patch_none, set_next}
use Rattle.octets.proofs.PartLaws.{part_none, part_all, part-snoc, length-part}
use Rattle.octets.proofs.copy.Goals as goal

pub loop-i-init : goal.loop-i-init
loop-i-init c =
    sym (rw (part_none c.args.s.now 0) (patch_none c.args.d.now c.args.at))

pub loop-i-preserved : goal.loop-i-preserved
loop-i-preserved c =
    let a = c.args in
    let i = c.loop-i.i in
    let s = a.s.now in
    rw (c.loop-i.invariant, add-one, part-snoc s 0 i (omega arith), zero-add)
    (set_next a.d.now (part s 0 i) a.at (a.at + i) (get_or s i 0)
    (ap (λ (n : ℕ). a.at + n) (length-part s 0 i (omega arith))) (omega arith))

pub returns : goal.returns
returns c =
    let e : c.loop-i.i ≡ length c.args.s.now = omega arith in
    c.loop-i.invariant ∙ rw (e, part_all c.args.s.now)
