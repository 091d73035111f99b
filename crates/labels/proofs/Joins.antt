-- Four digests written side by side over 128 bytes are their join.
-- Assumes nothing.
use Rattle.std.proofs.Common.{◌≡◌, ℕ, List, ◌++◌, length, ◌∙◌, append_assoc, arith, length-append}
use Rattle.octets.specs.Runs.{patch}
use Rattle.octets.proofs.PatchLaws.{patch_next, patch_all}
use Rattle.sha256.specs.Hash.{sha256}
use Rattle.sha256.proofs.Hashes.{sha256-length}

pub four : (m p q r s : List ℕ) {x y z w : List ℕ} → length m ≡ 128 → x ≡ patch m 0 (sha256 p) → y ≡ patch x 32 (sha256 q)
    → z ≡ patch y 64 (sha256 r) → w ≡ patch z 96 (sha256 s) → w ≡ sha256 p ++ (sha256 q ++ (sha256 r ++ sha256 s))
four m p q r s lm ex ey ez ew =
    let a = sha256 p in
    let b = sha256 q in
    let c = sha256 r in
    let d = sha256 s in
    let all : length m ≡ length (((a ++ b) ++ c) ++ d) = simp (length-append, sha256-length) lm in
    ew ∙ rw (
      ez,
      ey,
      ex,
      patch_next m a b 0 32 (simp sha256-length) (omega arith),
      patch_next m (a ++ b) c 0 64 (simp (length-append, sha256-length)) (omega arith),
      patch_next m ((a ++ b) ++ c) d 0 96 (simp (length-append, sha256-length)) (omega arith),
      patch_all m (((a ++ b) ++ c) ++ d) all,
    )
    (simp append_assoc)
