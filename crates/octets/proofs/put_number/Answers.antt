-- `octets::put_number` meets its contract: with what is left of n in the bytes that are left, all of it is written.
-- Assumes nothing.
use native.Mathlib.Omega.{arith}
use mathlib.Core.Path.{◌≡◌, sym, ◌∙◌}
use Prim.Native.Nat.{suc, ◌-◌}
use Rattle.octets.proofs.PatchLaws.{patch_none}
use Rattle.octets.proofs.NumberLaws.{put_place}
use Rattle.octets.proofs.put_number.Goals as goal

pub loop-i-preserved : goal.loop-i-preserved
loop-i-preserved g c =
    let e : c.loop-i.i ≡ suc (c.loop-i.i - 1) = omega arith in
    put_place c.loop-i.d c.args.at (c.loop-i.i - 1) _ c.loop-i.rest (omega arith) (omega arith)
    ∙ (rw e at c.loop-i.invariant)

pub returns : goal.returns
returns g c =
    let e : c.loop-i.i ≡ 0 = omega arith in
    sym (patch_none c.loop-i.d c.args.at) ∙ (rw e at c.loop-i.invariant)
