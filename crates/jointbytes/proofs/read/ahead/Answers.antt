-- `jointbytes::read::ahead` meets its contract: what is counted and what is left to count stay together.
-- Assumes nothing.
use native.Mathlib.Omega.{arith}
use lib.ListN.{length}
use mathlib.Core.Path.{◌≡◌, sym, ap, ◌∙◌}
use Prim.Native.Nat.{◌+◌, ◌-◌, ◌*◌}
use Rattle.jointbytes.specs.Reading.{ahead}
use Rattle.jointbytes.proofs.PieceLaws.{entry_fits, ahead_more, ahead_none}
use Rattle.jointbytes.proofs.read.ahead.Goals as goal

pub loop-k-preserved : goal.loop-k-preserved
loop-k-preserved c =
    let s = c.args.s.now in
    let k = c.loop-k.k in
    let v = c.loop-k.invariant in
    let t = sym c.is_entry.ensures ∙ c.loop-k-test.true in
    let f = entry_fits s (c.args.from + 38 * k) t in
    let m = ahead_more (length s) s (c.args.from + 38 * k) k t (omega (arith, f)) in
    let e : c.args.from + 38 * k + 38 ≡ c.args.from + 38 * (k + 1) = omega arith in
    (omega (arith, f), omega (arith, m, v.1, ap (ahead (length s - (k + 1)) s) e))

pub returns : goal.returns
returns c =
    let s = c.args.s.now in
    let k = c.loop-k.k in
    let v = c.loop-k.invariant in
    let z = ahead_none (length s - k) s (c.args.from + 38 * k) (sym c.is_entry.ensures ∙ c.loop-k-test.false) in
    (omega (arith, z, v.1), v.0)
