-- "Order." A call's refusals stand in one list, in the order of document 01: the first rule that is broken gives the refusal, and
-- where none is, the call is done.
-- Assumes nothing.
use Rattle.std.specs.Prelude.{Bool, true, false, cond, ◌⊎◌, ◌≡◌, List, [], ◌∷◌, Result, Ok, Err}
use Rattle.refusals.specs.declared.Refusal.{Refusal}

-- nothing, or the first refusal that is due
abbrev pub Verdict : Type 0
Verdict = Result (Unit {0}) Refusal

-- a refusal, and whether it is due
pub record Rule : Type 0 where
  pub due : Bool
  pub refusal : Refusal

infixl 20 ◌when◌
abbrev pub ◌when◌ : Refusal → Bool → Rule
r when b = record { due = b; refusal = r }

abbrev pub verdict_of : List Rule → Verdict
verdict_of [] = Ok tt
verdict_of (r ∷ rs) = cond r.due (Err r.refusal) (verdict_of rs)

-- the first rule that is due is one of r
abbrev pub FirstDue : Refusal → List Rule → Type 0
FirstDue r [] = ⊥
FirstDue r (x ∷ rs) = ((x.due ≡ true) × (x.refusal ≡ r)) ⊎ ((x.due ≡ false) × FirstDue r rs)

-- no rule is due
abbrev pub NoneDue : List Rule → Type 0
NoneDue [] = Unit {0}
NoneDue (r ∷ rs) = (r.due ≡ false) × NoneDue rs

-- by the verdict: what is answered where the call is done, else what a refusal answers
abbrev pub settled : {A : Type 0} → Verdict → A → A → A
settled (Ok tt) a b = a
settled (Err r) a b = b
