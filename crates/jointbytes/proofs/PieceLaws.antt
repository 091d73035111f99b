-- Entries counted one after the other.
-- Assumes nothing.
use Prim.Native.Nat.{ℕ, zero, suc, ◌+◌, ◌-◌, ◌≤◌}
use native.Mathlib.Omega.{arith}
use mathlib.Core.Path.{◌≡◌, refl}
use mathlib.Core.Bool.{Bool, true, false, ◌&&◌}
use mathlib.Core.List.{List}
use lib.Dec.{leb, ltb}
use lib.ListN.{length, get_or}
use borrow.Author.Tests.{leb-true}
use Rattle.skiplist.proofs.Cases.{both}
use Rattle.jointbytes.specs.Reading.{ahead}

abbrev pub is_entry : List ℕ → ℕ → Bool
is_entry s a = leb (a + 38) (length s) && ltb (get_or s a 0) 2

pub entry_fits : (s : List ℕ) (a : ℕ) → is_entry s a ≡ true → a + 38 ≤ length s
entry_fits s a e = leb-true (a + 38) (length s) (both _ _ e).0

pub ahead_more : (n : ℕ) (s : List ℕ) (a k : ℕ) → is_entry s a ≡ true → 1 ≤ n - k → ahead (n - k) s a ≡ 1 + ahead (n - (k + 1)) s (a + 38)
unfolding ahead
ahead_more n s a k e l = go (n - k) (n - (k + 1)) (omega arith)
  where
    go : (x y : ℕ) → x ≡ suc y → ahead x s a ≡ 1 + ahead y s (a + 38)
    go zero y d = let z : ◌≡◌ {A = ℕ} 0 1 = omega (arith, d) in absurd (omega (arith, z))
    go (suc x) y d =
        let f : x ≡ y = omega (arith, d) in
        rw (e, f) (omega arith)

pub ahead_none : (n : ℕ) (s : List ℕ) (a : ℕ) → is_entry s a ≡ false → ahead n s a ≡ 0
unfolding ahead
ahead_none zero s a e = refl
ahead_none (suc n) s a e = rw e refl
