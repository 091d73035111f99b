-- The joint proof's header, written field by field.
-- Assumes nothing.
use Prim.Native.Nat.{ℕ, ◌%◌, ◌<◌}
use native.Mathlib.Omega.{arith}
use mathlib.Core.Path.{◌≡◌, refl, ◌∙◌}
use mathlib.Core.List.{List, [], ◌∷◌, ◌++◌}
use lib.ListN.{length}
use Rattle.octets.specs.Numbers.{be}
use Rattle.octets.specs.Runs.{patch}
use Rattle.octets.proofs.PatchLaws.{patch_next, patch_all}
use Rattle.jointbytes.specs.Layout.{joint_header}
use Rattle.jointbytes.specs.Spelling.{joint_head}

pub header_is : (d x y z : List ℕ) (m rest : ℕ) → length d ≡ joint_header → m < 256 → x ≡ patch d 0 (be 1 1)
    → y ≡ patch x 1 (be 4 rest) → z ≡ patch y 5 (be 1 m) → z ≡ joint_head m rest
unfolding joint_head
header_is d x y z m rest l n ex ey ez =
    let k : m % 256 ≡ m = omega arith in
    let f : y ≡ patch d 0 (be 1 1 ++ be 4 rest) = ey ∙ rw ex (patch_next d (be 1 1) (be 4 rest) 0 1 refl (omega arith)) in
    ez
    ∙ rw (f, k) (patch_next d (be 1 1 ++ be 4 rest) (m ∷ []) 0 5 refl (omega arith))
    ∙ patch_all d ((be 1 1 ++ be 4 rest) ++ (m ∷ [])) l
