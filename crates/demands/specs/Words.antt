-- The words that the demands are said in: a verdict's number among some, what a refusal leaves, a refusal exactly where
-- its rule puts it, and a pledge that settles its outcome.
-- Assumes nothing.
use Rattle.std.specs.Prelude.{ℕ, zero, suc, ◌≡◌, ◌⊎◌, List, [], ◌∷◌, map, Ok, Err}
use Rattle.refusals.specs.declared.Refusal.{Refusal}
use Rattle.refusals.specs.Numbers.{number_of, verdict_number, proof_of}
use Rattle.refusals.specs.Order.{Rule, FirstDue, NoneDue, Verdict}
use Rattle.commands.specs.declared.Operation.{Operation}
use Rattle.commands.specs.declared.Operation.TheVariants.{Read, Replace, Insert, Delete}

-- n is one of the numbers
abbrev pub Among : ℕ → List ℕ → Type 0
Among n [] = ⊥
Among n (m ∷ ms) = (n ≡ m) ⊎ Among n ms

-- the numbers of documents 01 and 02 that rules give, in their order
abbrev pub numbers : List Rule → List ℕ
numbers rs = map (λ r. number_of r.refusal) rs

-- and the proofs that they speak of
abbrev pub proofs : List Rule → List ℕ
proofs rs = map (λ r. proof_of r.refusal) rs

-- "Gateway: 12, 2, 3, 4, then 7, 8, 9 on the first proof, the same on the second, then 10": the second proof is
-- Delete's; ask 4's 14, of Insert, "after 9"
abbrev pub later_numbers : Operation → List ℕ
later_numbers Read = []
later_numbers Replace = []
later_numbers Insert = 14 ∷ []
later_numbers Delete = 7 ∷ 8 ∷ 9 ∷ 10 ∷ []

abbrev pub gateway_numbers : Operation → List ℕ
gateway_numbers o = 12 ∷ 2 ∷ 3 ∷ 4 ∷ 7 ∷ 8 ∷ 9 ∷ later_numbers o

-- "7, 8 and 9 also say which proof, first or second": the proof that each of them speaks of, 0 for none
abbrev pub later_proofs : Operation → List ℕ
later_proofs Read = []
later_proofs Replace = []
later_proofs Insert = 0 ∷ []
later_proofs Delete = 2 ∷ 2 ∷ 2 ∷ 0 ∷ []

abbrev pub gateway_proofs : Operation → List ℕ
gateway_proofs o = 0 ∷ 0 ∷ 0 ∷ 0 ∷ 1 ∷ 1 ∷ 1 ∷ later_proofs o

-- of the late filer: "11 .. first of all; 7, 8, 9 for the second proof, after all of Insert's own; then 16 ..; then 15"
abbrev pub filer_numbers : List ℕ
filer_numbers = 11 ∷ 12 ∷ 2 ∷ 3 ∷ 4 ∷ 7 ∷ 8 ∷ 9 ∷ 14 ∷ 7 ∷ 8 ∷ 9 ∷ 16 ∷ 15 ∷ []

abbrev pub filer_proofs : List ℕ
filer_proofs = 0 ∷ 0 ∷ 0 ∷ 0 ∷ 0 ∷ 1 ∷ 1 ∷ 1 ∷ 0 ∷ 2 ∷ 2 ∷ 2 ∷ 0 ∷ 0 ∷ []

-- of a joint proof of n positions: "13 .. after 12; then 2; .. then 7 with place 0 .., then the first refusal of the spelled-out proofs,
-- with its place"
abbrev pub place_numbers : ℕ → List ℕ
place_numbers zero = []
place_numbers (suc n) = 7 ∷ 8 ∷ 9 ∷ place_numbers n

abbrev pub joint_numbers : ℕ → List ℕ
joint_numbers n = 12 ∷ 13 ∷ 2 ∷ 7 ∷ place_numbers n

-- the places, from i on
abbrev pub places_from : ℕ → ℕ → List ℕ
places_from i zero = []
places_from i (suc n) = i ∷ i ∷ i ∷ places_from (suc i) n

abbrev pub joint_places : ℕ → List ℕ
joint_places n = 0 ∷ 0 ∷ 0 ∷ 0 ∷ places_from 1 n

-- nothing is refused (0) or one of the numbers is given; and where it is, Back holds
pub record Refuses (v : Verdict) (ns : List ℕ) (Back : Type 0) : Type 0 where
  pub number : Among (verdict_number v) (0 ∷ ns)
  pub back : (r : Refusal) → v ≡ Err r → Back

-- the rules give these numbers in this order; a refusal is given exactly where its rule is the first that is due; and
-- the call is done exactly where none is
pub record Exactly (v : Verdict) (rs : List Rule) (ns : List ℕ) : Type 0 where
  pub order : numbers rs ≡ ns
  pub only_where : (r : Refusal) → v ≡ Err r → FirstDue r rs
  pub where_due : (r : Refusal) → FirstDue r rs → v ≡ Err r
  pub done_only : v ≡ Ok tt → NoneDue rs
  pub done_where : NoneDue rs → v ≡ Ok tt

-- two outcomes that satisfy the pledge are equal
abbrev pub Unique : {R : Type 0} → (R → Type 0) → Type 0
Unique {R} Pledge = (r s : R) → Pledge r → Pledge s → r ≡ s
