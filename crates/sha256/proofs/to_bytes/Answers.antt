-- `sha256::to_bytes` writes the words one after the other. After i turns the first i words are written.
-- Assumes nothing.
use Rattle.std.proofs.Common.{◌≡◌, ◌*◌, length, refl, ap, ◌∙◌, zero-le, arith, rules}
use Rattle.octets.proofs.NumberLaws.{length-be}
use Rattle.octets.proofs.PatchLaws.{length-patch}
use Rattle.octets.specs.Numbers.{be}
use Rattle.sha256.specs.Hash.{joined}
use Rattle.sha256.proofs.Hashes.{joined_more, joined_whole}
use Rattle.sha256.proofs.to_bytes.Goals as goal

pub loop-i-init : goal.loop-i-init
unfolding joined
loop-i-init c = (zero-le, refl, refl)

pub loop-i-preserved : goal.loop-i-preserved
loop-i-preserved c =
    let h = c.loop-i-test.true in
    let i = c.loop-i.i in
    let out = c.loop-i.out in
    let s = c.args.s in
    let n : length s ≡ 8 = search rules in
    let x = c.from.result in
    let e = c.put_number.ensures in (
      omega arith,
      ap length e ∙ length-patch out (be 4 x) (i * 4) (omega (arith, c.loop-i.invariant.1, length-be 4 x)) ∙ c.loop-i.invariant.1,
      joined_more s out c.put_number.new.d i x h n c.loop-i.invariant.1 c.loop-i.invariant.2
          (search rules) e,
    )

pub returns : goal.returns
returns c =
    let s = c.args.s in
    let n : length s ≡ 8 = search rules in
    joined_whole s c.loop-i.out c.loop-i.i c.loop-i.invariant.0 c.loop-i-test.false n c.loop-i.invariant.1
    c.loop-i.invariant.2
