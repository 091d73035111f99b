-- `archive::put_count` meets its contract: the length is written right before the count.
-- Assumes nothing.
use native.Mathlib.Omega.{arith}
use mathlib.Core.Path.{refl, ◌∙◌}
use Rattle.octets.specs.Numbers.{be}
use Rattle.octets.proofs.PatchLaws.{patch_before}
use Rattle.archive.specs.Form.{length_place, length_bytes, count_place, count_bytes, rest_bytes}
use Rattle.archive.proofs.put_count.Goals as goal

pub returns : goal.returns
returns c =
    let a = c.args in
    c.put_number-2.ensures
    ∙ rw c.put_number.ensures
    (patch_before a.b.now (be length_bytes (rest_bytes a.n)) (be count_bytes a.n) length_place count_place refl
    (omega arith))
