-- Header, entry and stop: the stores of each writer, one behind the other, fill the part that it was lent. And the
-- lengths of what is written.
-- Assumes nothing.
use Prim.Native.Nat.{ℕ, ◌+◌, ◌%◌, ◌<◌}
use native.Mathlib.Omega.{arith}
use mathlib.Core.Path.{◌≡◌, refl, sym, ap, ◌∙◌}
use mathlib.Core.List.{List, [], ◌∷◌, ◌++◌, append_assoc}
use lib.ListN.{length, length-append}
use borrow.Rule.Slice.PartMut.{put_mid}
use Rattle.octets.specs.Numbers.{be}
use Rattle.octets.specs.Runs.{patch}
use Rattle.octets.proofs.PatchLaws.{patch_next, patch_all, of_part}
use Rattle.skiplist.specs.Limits.{digest_bytes}
use Rattle.skiplist.specs.Entry.{Entry}
use Rattle.skiplist.specs.Label.{Side, rank_bytes}
use Rattle.proofbytes.specs.Layout.{proof_version, stop_kind, length_bytes, header_size, entry_size, stop_size, rest_size}
use Rattle.proofbytes.specs.Writing.{header_bytes, field_bytes, stop_fields, entry_bytes, entries_bytes}

pub length-header : (k : ℕ) → length (header_bytes k) ≡ header_size
unfolding header_bytes
length-header k = refl

pub length_fields : (kind level rank : ℕ) (bytes : List ℕ) → length bytes ≡ digest_bytes
    → length (field_bytes kind level rank bytes) ≡ entry_size
unfolding field_bytes
length_fields kind level rank bytes e = omega (arith, e)

pub length-stop : (own rank : ℕ) (tag label : List ℕ) → length tag ≡ digest_bytes → length label ≡ digest_bytes
    → length (stop_fields own tag rank label) ≡ stop_size
unfolding stop_fields
length-stop own rank tag label t l =
    length-append (field_bytes stop_kind 0 own tag) (rank_bytes rank ++ label)
    ∙ omega (arith, length_fields stop_kind 0 own tag t, l)

pub entries-append : (p q : List (Entry Side)) → entries_bytes (p ++ q) ≡ entries_bytes p ++ entries_bytes q
unfolding entries_bytes
entries-append [] q = refl
entries-append (e ∷ p) q = rw (entries-append p q) (sym (append_assoc (entry_bytes e) (entries_bytes p) (entries_bytes q)))

-- ---- the writers
pub header_is : (d x y : List ℕ) (k : ℕ) → length d ≡ header_size → x ≡ patch d 0 (be 1 proof_version)
    → y ≡ patch x 1 (be length_bytes (rest_size k)) → y ≡ header_bytes k
unfolding header_bytes
header_is d x y k l ex ey =
    ey
    ∙ rw ex (patch_next d (be 1 proof_version) (be length_bytes (rest_size k)) 0 1 refl (omega arith))
    ∙ patch_all d (be 1 proof_version ++ be length_bytes (rest_size k)) l

pub entry_is : (d d₁ d₂ d₃ d₄ bytes : List ℕ) (kind level rank : ℕ) → length d ≡ entry_size → length bytes ≡ digest_bytes
    → kind < 256 → level < 256 → d₁ ≡ patch d 0 (be 1 kind) → d₂ ≡ patch d₁ 1 (be 1 level) → d₃
    ≡ patch d₂ 2 (rank_bytes rank)
    → d₄ ≡ patch d₃ 6 bytes → d₄ ≡ field_bytes kind level rank bytes
unfolding field_bytes
entry_is d d₁ d₂ d₃ d₄ bytes kind level rank l lb hk hl e₁ e₂ e₃ e₄ =
    let k : kind % 256 ≡ kind = omega arith in
    let v : level % 256 ≡ level = omega arith in
    let f₁ : d₁ ≡ patch d 0 (kind ∷ []) = e₁ ∙ rw k in
    let f₂ : d₂ ≡ patch d 0 (kind ∷ level ∷ []) =
    e₂ ∙ rw (f₁, v) (patch_next d (kind ∷ []) (level ∷ []) 0 1 refl (omega arith)) in
    let f₃ : d₃ ≡ patch d 0 (kind ∷ level ∷ rank_bytes rank) =
    e₃ ∙ rw f₂ (patch_next d (kind ∷ level ∷ []) (rank_bytes rank) 0 2 refl (omega arith)) in
    e₄
    ∙ rw f₃ (patch_next d (kind ∷ level ∷ rank_bytes rank) bytes 0 6 refl (omega arith))
    ∙ patch_all d (kind ∷ level ∷ (rank_bytes rank ++ bytes)) (l ∙ omega (arith, lb))

pub stop_is : (d x d₂ d₃ tag label : List ℕ) (own rank : ℕ) → length d ≡ stop_size → length tag ≡ digest_bytes
    → length label ≡ digest_bytes
    → x ≡ field_bytes stop_kind 0 own tag → d₂ ≡ patch (put_mid 0 entry_size d x) entry_size (rank_bytes rank) → d₃
    ≡ patch d₂ 42 label
    → d₃ ≡ stop_fields own tag rank label
unfolding stop_fields
stop_is d x d₂ d₃ tag label own rank l lt ll ex e₂ e₃ =
    let lx : length x ≡ entry_size = ap length ex ∙ length_fields stop_kind 0 own tag lt in
    let f₂ : d₂ ≡ patch d 0 (x ++ rank_bytes rank) =
    e₂ ∙ rw (of_part d x 0 entry_size lx) (patch_next d x (rank_bytes rank) 0 entry_size (omega arith) (omega arith)) in
    let lr : 0 + length (x ++ rank_bytes rank) ≡ 42 = rw (length-append x (rank_bytes rank)) (omega arith) in
    let f₃ : d₃ ≡ patch d 0 ((x ++ rank_bytes rank) ++ label) =
    e₃ ∙ rw f₂ (patch_next d (x ++ rank_bytes rank) label 0 42 lr (omega arith)) in
    let w : length d ≡ length ((x ++ rank_bytes rank) ++ label) =
    l ∙ sym (length-append (x ++ rank_bytes rank) label ∙ omega arith) in
    f₃ ∙ patch_all d ((x ++ rank_bytes rank) ++ label) w ∙ append_assoc x (rank_bytes rank) label ∙ rw ex
