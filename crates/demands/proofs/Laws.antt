-- Laws that serve every call: the verdict of a list of rules is given exactly where the rules put it, its number is 0
-- or one of theirs; and a pledge that settles its outcome has one outcome alone.
-- Assumes nothing.
use Rattle.std.specs.Prelude.{Err}
use Prim.Native.Nat.{ℕ}
use mathlib.Core.Path.{◌≡◌, refl, sym, ap, subst, ◌∙◌}
use mathlib.Core.Logic.{inl, inr}
use mathlib.Core.Bool.{Bool, true, false, cond}
use mathlib.Core.List.{List, [], ◌∷◌}
use Rattle.refusals.specs.declared.Refusal.{Refusal}
use Rattle.refusals.specs.Numbers.{verdict_number}
use Rattle.refusals.specs.Order.{Rule, verdict_of, settled, Verdict}
use Rattle.refusals.proofs.OrderLaws.{refused-first, first-refused, done-none, none-done}
use Rattle.demands.specs.Words.{Among, numbers, Refuses, Exactly, Unique}

-- THE NUMBER of a verdict is 0 or that of one of the rules
pub verdict-among : (rs : List Rule) → Among (verdict_number (verdict_of rs)) (0 ∷ numbers rs)
verdict-among [] = inl refl
verdict-among (x ∷ rs) = go x.due (verdict-among rs)
  where
    go : (b : Bool) → Among (verdict_number (verdict_of rs)) (0 ∷ numbers rs)
        → Among (verdict_number (cond b (Err x.refusal) (verdict_of rs))) (0 ∷ numbers (x ∷ rs))
    go true k = inr (inl refl)
    go false (inl e) = inl e
    go false (inr e) = inr (inr e)

-- THE PLACE of every refusal
pub placed : (v : Verdict) (rs : List Rule) (ns : List ℕ) → v ≡ verdict_of rs → numbers rs ≡ ns → Exactly v rs ns
placed v rs ns e n = record {
  order = n;
  only_where = λ r f. refused-first rs r (sym e ∙ f);
  where_due = λ r d. e ∙ first-refused rs r d;
  done_only = λ f. done-none rs (sym e ∙ f);
  done_where = λ d. e ∙ none-done rs d;
}

-- WHAT A REFUSAL LEAVES, by what is settled
pub refuses : {Back : Type 0} (v : Verdict) (rs : List Rule) (ns : List ℕ) → v ≡ verdict_of rs
    → numbers rs ≡ ns → ((r : Refusal) → verdict_of rs ≡ Err r → Back) → Refuses v ns Back
refuses v rs ns e n back = record {
  number = subst (λ ms. Among (verdict_number v) (0 ∷ ms)) n
      (subst (λ x. Among (verdict_number x) (0 ∷ numbers rs)) (sym e) (verdict-among rs));
  back = λ r f. back r (sym e ∙ f);
}

pub refused-settled : {A : Type 0} (v : Verdict) (r : Refusal) (a b : A) → v ≡ Err r → settled v a b ≡ b
refused-settled v r a b e = ap (λ x. settled x a b) e

-- ONE OUTCOME
pub settled_unique : {R : Type 0} (Pledge : R → Type 0) (value : R) → ((r : R) → Pledge r → r ≡ value)
    → Unique Pledge
settled_unique Pledge value f r s p q = f r p ∙ sym (f s q)

-- of an answer and the bytes after
pub both_unique : {R S : Type 0} (Pledge : R → S → Type 0)
    → ((r s : R) (x y : S) → Pledge r x → Pledge s y → (r ≡ s) × (x ≡ y)) → Unique (λ (o : R × S). Pledge o.0 o.1)
both_unique Pledge f o q a b =
    let e = f o.0 q.0 o.1 q.1 a b in
    λ i. (e.0 i, e.1 i)
