-- The positions of a set, looked at one after the other.
-- Assumes nothing.
use Prim.Native.Nat.{ℕ, zero, suc, ◌+◌, ◌≤◌, ◌<◌}
use native.Mathlib.Omega.{arith}
use native.Mathlib.Numerals.{add-one}
use mathlib.Core.Path.{◌≡◌, refl, sym, ap}
use mathlib.Core.Bool.{Bool, true, false, ◌&&◌}
use mathlib.Core.List.{List, [], ◌∷◌}
use lib.Dec.{leb, ltb}
use lib.ListN.{length}
use borrow.Author.Tests.{lt-ltb, le-ltb, leb-true}
use Rattle.std.specs.Prelude.{MatchBool, slice_index}
use Rattle.jointbytes.proofs.RecordLaws.{and-false}
use Rattle.skiplist.proofs.Cases.{both}
use Rattle.jointbytes.specs.Positions.{rises, rising, is_set}

-- of each two neighbours the later one is above, or of some two it is not
abbrev pub Up : List ℕ → ℕ → Type 0
Up ps k = slice_index ps k < slice_index ps (k + 1)

abbrev pub NotUp : List ℕ → ℕ → Type 0
NotUp ps k = (k + 1 < length ps) × (slice_index ps (k + 1) ≤ slice_index ps k)

up_further : (p : ℕ) (ps : List ℕ) (k : ℕ) → slice_index (p ∷ ps) (suc k + 1) ≡ slice_index ps (k + 1)
up_further p ps k =
    let e : suc k + 1 ≡ suc (k + 1) = omega (arith, add-one k, add-one (suc k), add-one (k + 1)) in
    ap (slice_index (p ∷ ps)) e

up : (p : ℕ) (ps : List ℕ) → ((k : ℕ) → k + 1 < length (p ∷ ps) → Up (p ∷ ps) k) → rises p ps ≡ true
unfolding rises
up p [] h = refl
up p (q ∷ ps) h =
    rw (lt-ltb p q (h 0 (omega arith)))
    (up q ps (λ k l. omega (arith, h (suc k) (omega (arith, add-one k)), up_further p (q ∷ ps) k)))

not_up : (p : ℕ) (ps : List ℕ) (k : ℕ) → NotUp (p ∷ ps) k → rises p ps ≡ false
unfolding rises
not_up p [] k h = absurd (omega (arith, h.0))
not_up p (q ∷ ps) zero h = rw (le-ltb p q h.1)
not_up p (q ∷ ps) (suc k) h =
    rw (not_up q ps k (omega (arith, h.0, add-one k), omega (arith, h.1, up_further p (q ∷ ps) k))) (and-false (ltb p q))

pub rising_is : (ps : List ℕ) (b : Bool)
    → MatchBool b ((k : ℕ) → k + 1 < length ps → Up ps k) ((k : ℕ) × NotUp ps k) → b ≡ rising ps
rising_is [] true h = refl
rising_is (p ∷ ps) true h = sym (up p ps h)
rising_is [] false h = absurd (omega (arith, h.1.0))
rising_is (p ∷ ps) false h = sym (not_up p ps h.0 h.1)

pub set_some : (ps : List ℕ) → is_set ps ≡ true → 1 ≤ length ps
set_some ps e = leb-true 1 (length ps) (both (leb 1 (length ps)) (leb (length ps) 32 && rising ps) e).0

pub set_few : (ps : List ℕ) → is_set ps ≡ true → length ps ≤ 32
set_few ps e =
    leb-true (length ps) 32
    (both (leb (length ps) 32) (rising ps) (both (leb 1 (length ps)) (leb (length ps) 32 && rising ps) e).1).0
