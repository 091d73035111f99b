-- `jointgateway::spell` meets its contract: a lent part comes back as a patch, and the rest is written behind it.
-- Assumes nothing.
use native.Mathlib.Omega.{arith}
use lib.ListN.{length}
use mathlib.Core.Path.{◌≡◌, ap, ◌∙◌}
use Prim.Native.Nat.{◌+◌, ◌-◌, ◌*◌}
use Rattle.octets.specs.Runs.{part}
use Rattle.octets.proofs.PatchLaws.{of_part}
use Rattle.proofbytes.proofs.WriteLaws.{length-header}
use Rattle.jointgateway.proofs.spell.Goals as goal

pub returns : goal.returns
unfolding part
returns c =
    let a = c.args in
    let q = a.q in
    let e : (q.from + (38 * q.own + 74)) - q.from ≡ 38 * q.own + 74 = omega arith in
    let o = of_part a.work.now c.header.new.d 0 (3 - 0) (ap length c.header.ensures ∙ length-header (q.shared + q.own)) in
    c.copy.ensures ∙ rw (e, o, c.header.ensures)
