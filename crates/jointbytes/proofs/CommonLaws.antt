-- Laws of the shared number and of records joined. Two lists agree as far as their shared number goes, and no list has fewer records.
-- Assumes nothing.
use Prim.Native.Nat.{ℕ, zero, suc, ◌+◌, ◌*◌, ◌≤◌}
use mathlib.Core.Path.{◌≡◌, refl, sym, ap, ap₂, ◌∙◌}
use mathlib.Core.Bool.{Bool, true, false, cond}
use mathlib.Core.List.{List, [], ◌∷◌, ◌++◌, append_assoc}
use native.Mathlib.Nat.{zero-add}
use native.Mathlib.Omega.{arith}
use native.Mathlib.Numerals.{add-one}
use lib.ListN.{length, take, drop, length-append}
use Rattle.octets.specs.Runs.{same}
use Rattle.octets.proofs.RunLaws.{same-true, same_refl}
use Rattle.jointbytes.specs.Spelling.{joined, common}
use Rattle.proofbytes.specs.Layout.{entry_size}
use Rattle.jointbytes.specs.Proper.{EntryRecords}

-- THE SHARED NUMBER
pub common_left : (xs ys : List (List ℕ)) → common xs ys ≤ length xs
unfolding common
common_left [] ys = omega arith
common_left (x ∷ xs) [] = omega arith
common_left (x ∷ xs) (y ∷ ys) = go (same x y) (common_left xs ys)
  where
    go : (t : Bool) → common xs ys ≤ length xs → cond t (suc (common xs ys)) 0 ≤ suc (length xs)
    go true h = omega arith
    go false h = omega arith

pub common_right : (xs ys : List (List ℕ)) → common xs ys ≤ length ys
unfolding common
common_right [] ys = omega arith
common_right (x ∷ xs) [] = omega arith
common_right (x ∷ xs) (y ∷ ys) = go (same x y) (common_right xs ys)
  where
    go : (t : Bool) → common xs ys ≤ length ys → cond t (suc (common xs ys)) 0 ≤ suc (length ys)
    go true h = omega arith
    go false h = omega arith

-- the shared records are the same ones
pub common-take : (xs ys : List (List ℕ)) → take (common xs ys) xs ≡ take (common xs ys) ys
unfolding common
common-take [] [] = refl
common-take [] (y ∷ ys) = refl
common-take (x ∷ xs) [] = refl
common-take (x ∷ xs) (y ∷ ys) = go (same x y) refl (common-take xs ys)
  where
    go : (t : Bool) → same x y ≡ t → take (common xs ys) xs ≡ take (common xs ys) ys
        → take (cond t (suc (common xs ys)) 0) (x ∷ xs) ≡ take (cond t (suc (common xs ys)) 0) (y ∷ ys)
    go true e h = ap₂ ◌∷◌ (same-true x y e) h
    go false e h = refl

-- what begins with c of the records shares these, and what the rest shares
pub common_after : (xs ys : List (List ℕ)) (c : ℕ) → c ≤ length xs
    → common xs (take c xs ++ ys) ≡ c + common (drop c xs) ys
unfolding common
common_after xs ys zero h = sym (zero-add (common xs ys))
common_after [] ys (suc c) h = absurd (omega arith)
common_after (x ∷ xs) ys (suc c) h =
    rw (same_refl x, common_after xs ys c (omega arith)) (omega (arith, add-one c, add-one (c + common (drop c xs) ys)))

-- RECORDS JOINED
pub joined-append : (xs ys : List (List ℕ)) → joined (xs ++ ys) ≡ joined xs ++ joined ys
unfolding joined
joined-append [] ys = refl
joined-append (x ∷ xs) ys = ap (λ r. x ++ r) (joined-append xs ys) ∙ sym (append_assoc x (joined xs) (joined ys))

-- every record is of an entry's length
abbrev pub AllLong : List (List ℕ) → Type 0
AllLong [] = Unit {0}
AllLong (x ∷ xs) = (length x ≡ entry_size) × AllLong xs

pub entries_long : (xs : List (List ℕ)) → EntryRecords xs → AllLong xs
entries_long [] k = tt
entries_long (x ∷ xs) k = (k.0.0, entries_long xs k.1)

pub length-joined : (xs : List (List ℕ)) → AllLong xs → length (joined xs) ≡ 38 * length xs
unfolding joined
length-joined [] k = omega arith
length-joined (x ∷ xs) k =
    length-append x (joined xs) ∙ omega (arith, length-joined xs k.1, k.0, add-one (length xs))
