-- What is written of a joint proof, one piece behind the other: a piece from its shared number and its records, the later
-- pieces in a loop, the whole from its header, its first proof and them.
-- Assumes nothing.
use Prim.Native.Nat.{ℕ, ◌+◌, ◌-◌, ◌≤◌, ◌<◌}
use native.Mathlib.Nat.{add-zero}
use native.Mathlib.Omega.{arith}
use mathlib.Core.Path.{◌≡◌, refl, sym, ap, ◌∙◌}
use mathlib.Core.List.{List, [], ◌∷◌, ◌++◌, append_assoc, append-nil}
use lib.ListN.{length, drop, get_or, length-append}
use Rattle.octets.specs.Numbers.{be}
use Rattle.octets.specs.Runs.{patch}
use Rattle.octets.proofs.PatchLaws.{patch_none, patch_next, length-patch}
use Rattle.jointbytes.specs.Layout.{number_place, joint_header, shared_bytes}
use Rattle.jointbytes.specs.Spelling.{joint_head}
use Rattle.jointstore.specs.Answers.{joint_at}
use Rattle.jointstore.specs.Passes.{shared_at, rest_at, piece_at, pieces_at, later_at}
use Rattle.jointstore.proofs.PositionLaws.{Asked, rest_next}
use Rattle.jointstore.proofs.JointLaws.{body_at, joint_is, joint_size, length_head, pieces_size, no_pieces}

-- A PIECE
pub piece_size : (b : List ℕ) (p q : ℕ) → length (piece_at b p q) ≡ shared_bytes + length (rest_at b q (shared_at b p q))
unfolding piece_at
piece_size b p q = length-append (be shared_bytes (shared_at b p q)) (rest_at b q (shared_at b p q))

module _ (b : List ℕ) (p q c : ℕ) (ec : c ≡ shared_at b p q) where
  pub piece_long : length (piece_at b p q) ≡ shared_bytes + length (rest_at b q c)
  piece_long = rw ec (piece_size b p q)

  pub piece_put : (old x y : List ℕ) (at : ℕ) → at + length (piece_at b p q) ≤ length old
      → x ≡ patch old at (be shared_bytes c) → y ≡ patch x (at + shared_bytes) (rest_at b q c)
      → y ≡ patch old at (piece_at b p q)
  unfolding piece_at
  piece_put old x y at fits ex ey =
      ey
      ∙ ap (λ z. patch z (at + shared_bytes) (rest_at b q c)) ex
      ∙ patch_next old (be shared_bytes c) (rest_at b q c) at (at + shared_bytes) refl (omega (arith, piece_long))
      ∙ rw ec

-- THE LATER PIECES, s in all, are written from `at` on over `old`, up to `end`: those of qs after p are left
pub record Written (b s old : List ℕ) (at : ℕ) (now : List ℕ) (p end : ℕ) (qs : List ℕ) : Type 0 where
  pub done : List ℕ
  pub here : now ≡ patch old at done
  pub left : done ++ pieces_at b p qs ≡ s
  pub until : at + length done ≡ end

pub written_start : (b ps old : List ℕ) (at : ℕ) → Written b (later_at b ps) old at old (get_or ps 0 0) at (drop 1 ps)
written_start b ps old at = record {
  done = [];
  here = sym (patch_none old at);
  left = refl;
  until = add-zero at;
}

module _ (b s old : List ℕ) (at : ℕ) (fits : at + length s ≤ length old) where
  whole : (new : List ℕ) (p end : ℕ) (qs : List ℕ) (w : Written b s old at new p end qs)
      → length w.done + length (pieces_at b p qs) ≡ length s
  whole new p end qs w = sym (length-append w.done (pieces_at b p qs)) ∙ ap length w.left

  pub written-length : (new : List ℕ) (p end : ℕ) (qs : List ℕ) → Written b s old at new p end qs
      → length new ≡ length old
  written-length new p end qs w =
      ap length w.here ∙ length-patch old w.done at (omega (arith, whole new p end qs w))

  module _ (ps new : List ℕ) (p end i : ℕ) (w : Written b s old at new p end (drop i ps)) where
    pub written_end : length ps ≤ i → new ≡ patch old at s
    written_end h =
        w.here
        ∙ ap (patch old at) (sym (append-nil w.done) ∙ ap (λ y. w.done ++ y) (sym (no_pieces b ps p i h))
        ∙ w.left)

    module _ (more : i < length ps) where
      pub written_room : end + length (piece_at b p (get_or ps i 0)) ≤ length new
      written_room =
          omega (
            arith,
            rw (rest_next ps i more) at (whole new p end (drop i ps) w),
            pieces_size b p (get_or ps i 0) (drop (i + 1) ps),
            w.until,
            written-length new p end (drop i ps) w,
          )

      pub written_turn : (next : List ℕ) (to : ℕ) → next ≡ patch new end (piece_at b p (get_or ps i 0))
          → to ≡ end + length (piece_at b p (get_or ps i 0))
          → Written b s old at next (get_or ps i 0) to (drop (i + 1) ps)
      unfolding pieces_at
      written_turn next to e et =
          let x = piece_at b p (get_or ps i 0) in
          record {
            done = w.done ++ x;
            here = e
                ∙ ap (λ y. patch y end x) w.here
                ∙ patch_next old w.done x at end w.until
                (omega (arith, whole new p end (drop i ps) w, w.until));
            left = append_assoc w.done x (pieces_at b (get_or ps i 0) (drop (i + 1) ps))
                ∙ rw (rest_next ps i more) at w.left;
            until = ap (λ y. at + y) (length-append w.done x) ∙ omega (arith, w.until);
          }

-- THE WHOLE: so many bytes are left for what is behind the header
pub whole_size : (b ps : List ℕ) → Asked b ps
    → length (joint_at b ps) ≡ joint_header + (length (rest_at b (get_or ps 0 0) 0) + length (later_at b ps))
whole_size b [] a = absurd (omega (arith, a.some))
whole_size b (p ∷ qs) a = joint_size b p qs

pub joint_put : (b ps old : List ℕ) (at : ℕ) → Asked b ps → at + length (joint_at b ps) ≤ length old
    → (x y z : List ℕ) (m size end : ℕ) → m ≡ length ps → size ≡ length (joint_at b ps)
    → x ≡ patch old at (joint_head m (size - number_place)) → y ≡ patch x (at + joint_header) (rest_at b (get_or ps 0 0) 0)
    → end ≡ at + joint_header + length (rest_at b (get_or ps 0 0) 0) → z ≡ patch y end (later_at b ps)
    → z ≡ patch old at (joint_at b ps)
joint_put b [] old at a fits x y z m size end em es ex ey ee ez = absurd (omega (arith, a.some))
joint_put b (p ∷ qs) old at a fits x y z m size end em es ex ey ee ez =
    let n : size - number_place ≡ 1 + length (body_at b p qs) =
    omega (arith, joint_size b p qs, length-append (rest_at b p 0) (pieces_at b p qs)) in
    let h = joint_head (length (p ∷ qs)) (1 + length (body_at b p qs)) in
    let l : length h ≡ joint_header = length_head (length (p ∷ qs)) (1 + length (body_at b p qs)) in
    let r = rest_at b p 0 in
    let s = pieces_at b p qs in
    let fx : x ≡ patch old at h = ex ∙ rw (em, n) in
    let fy : y ≡ patch old at (h ++ r) =
    ey ∙ ap (λ w. patch w (at + joint_header) r) fx
    ∙ patch_next old h r at (at + joint_header) (omega (arith, l)) (omega (arith, joint_size b p qs)) in
    ez
    ∙ ap (λ w. patch w end s) fy
    ∙ patch_next old (h ++ r) s at end (ap (λ w. at + w) (length-append h r) ∙ omega (arith, l, ee))
    (omega (arith, ee, joint_size b p qs))
    ∙ ap (patch old at) (append_assoc h r s ∙ sym (joint_is b p qs))
