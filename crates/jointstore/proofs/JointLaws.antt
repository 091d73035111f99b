-- A joint proof is its header, the first proof's records and the later pieces; its length is summed by a loop over the
-- positions.
-- Assumes nothing.
use Prim.Native.Nat.{ℕ, ◌+◌, ◌*◌, ◌≤◌, ◌<◌}
use native.Mathlib.Omega.{arith}
use mathlib.Core.Path.{◌≡◌, refl, ap, ◌∙◌}
use mathlib.Core.Bool.{true}
use mathlib.Core.List.{List, [], ◌∷◌, ◌++◌, map, append_assoc}
use lib.ListN.{length, drop, get_or, length-append, length-map, drop_of_length-le}
use Rattle.archive.specs.Reading.{sound}
use Rattle.proofbytes.specs.Layout.{entry_size, stop_size}
use Rattle.jointbytes.specs.Layout.{joint_header}
use Rattle.jointbytes.specs.Spelling.{later_bytes, body_bytes, joint_head, joint_bytes}
use Rattle.store.specs.Answers.{entries_at}
use Rattle.jointstore.specs.Answers.{raw_at, joint_at}
use Rattle.jointstore.specs.Passes.{shared_at, rest_at, piece_at, pieces_at}
use Rattle.jointstore.proofs.PieceLaws.{length-rest}
use Rattle.jointstore.proofs.PositionLaws.{Asked, rest_next}

-- THE PIECES
laters_are : (b : List ℕ) (p : ℕ) (qs : List ℕ) → later_bytes (raw_at b p) (map (raw_at b) qs) ≡ pieces_at b p qs
unfolding later_bytes pieces_at piece_at rest_at shared_at
laters_are b p [] = refl
laters_are b p (q ∷ qs) = rw (laters_are b q qs) (simp append_assoc)

abbrev pub body_at : List ℕ → ℕ → List ℕ → List ℕ
body_at b p qs = rest_at b p 0 ++ pieces_at b p qs

body_is : (b : List ℕ) (p : ℕ) (qs : List ℕ) → body_bytes (map (raw_at b) (p ∷ qs)) ≡ body_at b p qs
unfolding body_bytes rest_at
body_is b p qs = rw (laters_are b p qs) (simp append_assoc)

-- THE JOINT PROOF: header, first proof, later pieces
pub joint_is : (b : List ℕ) (p : ℕ) (qs : List ℕ)
    → joint_at b (p ∷ qs) ≡ joint_head (length (p ∷ qs)) (1 + length (body_at b p qs)) ++ body_at b p qs
unfolding joint_at joint_bytes
joint_is b p qs = rw (body_is b p qs, length-map qs (raw_at b))

pub length_head : (m n : ℕ) → length (joint_head m n) ≡ joint_header
unfolding joint_head
length_head m n = refl

pub joint_size : (b : List ℕ) (p : ℕ) (qs : List ℕ)
    → length (joint_at b (p ∷ qs)) ≡ joint_header + (length (rest_at b p 0) + length (pieces_at b p qs))
joint_size b p qs =
    ap length (joint_is b p qs)
    ∙ length-append (joint_head (length (p ∷ qs)) (1 + length (body_at b p qs))) (body_at b p qs)
    ∙ omega (
      arith,
      length_head (length (p ∷ qs)) (1 + length (body_at b p qs)),
      length-append (rest_at b p 0) (pieces_at b p qs),
    )

pub pieces_size : (b : List ℕ) (p q : ℕ) (qs : List ℕ)
    → length (pieces_at b p (q ∷ qs)) ≡ length (piece_at b p q) + length (pieces_at b q qs)
unfolding pieces_at
pieces_size b p q qs = length-append (piece_at b p q) (pieces_at b q qs)

pub no_pieces : (b ps : List ℕ) (p i : ℕ) → length ps ≤ i → pieces_at b p (drop i ps) ≡ []
unfolding pieces_at
no_pieces b ps p i h = rw (drop_of_length-le ps h)

-- ---- its length
pub size_start : (b ps : List ℕ) (k t : ℕ) → sound b ≡ true → Asked b ps → k ≡ entries_at b (get_or ps 0 0)
    → t ≡ joint_header + entry_size * k + stop_size
    → t + length (pieces_at b (get_or ps 0 0) (drop 1 ps)) ≡ length (joint_at b ps)
size_start b [] k t good a ek et = absurd (omega (arith, a.some))
size_start b (p ∷ ps) k t good a ek et =
    omega (arith, joint_size b p ps, length-rest b good p a.ahead.in_row 0)

pub size_turn : (b ps : List ℕ) (p i t s n : ℕ) → i < length ps → t + length (pieces_at b p (drop i ps)) ≡ n
    → s ≡ length (piece_at b p (get_or ps i 0))
    → t + s + length (pieces_at b (get_or ps i 0) (drop (i + 1) ps)) ≡ n
size_turn b ps p i t s n h e es =
    omega (
      arith,
      rw (rest_next ps i h) at e,
      pieces_size b p (get_or ps i 0) (drop (i + 1) ps),
    )

pub size_end : (b ps : List ℕ) (p i t n : ℕ) → length ps ≤ i → t + length (pieces_at b p (drop i ps)) ≡ n → t ≡ n
size_end b ps p i t n h e = omega (arith, rw (no_pieces b ps p i h) at e)
