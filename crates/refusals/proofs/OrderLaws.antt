-- A verdict is a refusal exactly where that refusal's rule is the first that is due, and Done exactly where none is; and the
-- verdict of rules after others.
-- Assumes nothing.
use Rattle.std.specs.Prelude.{Ok, Err, is_ok}
use Prim.Native.Nat.{ℕ}
use native.Mathlib.Omega.{arith}
use mathlib.Core.Path.{◌≡◌, refl, sym, ap, ◌∙◌}
use mathlib.Core.Logic.{◌⊎◌, inl, inr}
use mathlib.Core.Bool.{Bool, true, false, cond}
use mathlib.Core.List.{List, [], ◌∷◌, ◌++◌}
use Rattle.refusals.specs.declared.Refusal.{Refusal}
use Rattle.refusals.specs.Numbers.{number_of}
use Rattle.refusals.specs.Order.{Rule, ◌when◌, verdict_of, FirstDue, NoneDue, settled, Verdict}

pub refused-first : (rs : List Rule) (r : Refusal) → verdict_of rs ≡ Err r → FirstDue r rs
refused-first [] r e = let z : ◌≡◌ {A = ℕ} 0 1 = cc in absurd (omega arith)
refused-first (x ∷ rs) r e = go x.due refl e (refused-first rs r)
  where
    go : (b : Bool) → x.due ≡ b → cond b (Err x.refusal) (verdict_of rs) ≡ Err r
        → (verdict_of rs ≡ Err r → FirstDue r rs) → FirstDue r (x ∷ rs)
    go true p q f = inl (p, (cc))
    go false p q f = inr (p, f q)

pub first-refused : (rs : List Rule) (r : Refusal) → FirstDue r rs → verdict_of rs ≡ Err r
first-refused [] r d = absurd d
first-refused (x ∷ rs) r (inl d) = rw (d.0, d.1)
first-refused (x ∷ rs) r (inr d) = rw d.0 (first-refused rs r d.1)

pub done-none : (rs : List Rule) → verdict_of rs ≡ Ok tt → NoneDue rs
done-none [] e = tt
done-none (x ∷ rs) e = go x.due refl e (done-none rs)
  where
    go : (b : Bool) → x.due ≡ b → cond b (Err x.refusal) (verdict_of rs) ≡ Ok tt
        → (verdict_of rs ≡ Ok tt → NoneDue rs) → NoneDue (x ∷ rs)
    go true p q f = let z : ◌≡◌ {A = ℕ} 0 1 = cc in absurd (omega arith)
    go false p q f = (p, f q)

pub none-done : (rs : List Rule) → NoneDue rs → verdict_of rs ≡ Ok tt
none-done [] n = refl
none-done (x ∷ rs) n = rw n.0 (none-done rs n.1)

-- what is settled where the call is done, and where it is not
pub done_settled : {A : Type 0} (v : Verdict) (a b : A) → is_ok v ≡ true → settled v a b ≡ a
done_settled (Ok tt) a b e = refl
done_settled (Err r) a b e = let z : ◌≡◌ {A = ℕ} 0 1 = cc in absurd (omega arith)

pub refused-settled : {A : Type 0} (v : Verdict) (a b : A) → is_ok v ≡ false → settled v a b ≡ b
refused-settled (Ok tt) a b e = let z : ◌≡◌ {A = ℕ} 0 1 = cc in absurd (omega arith)
refused-settled (Err r) a b e = refl

-- ---- a verdict is one or the other
pub done-refused : {P : Type 0} {r : Refusal} → ◌≡◌ {A = Verdict} (Ok tt) (Err r) → P
done-refused e = let z : ◌≡◌ {A = ℕ} 0 1 = cc in absurd (omega arith)

pub cases : (v : Verdict) → (v ≡ Ok tt) ⊎ ((r : Refusal) × (v ≡ Err r))
cases (Ok tt) = inl refl
cases (Err r) = inr (r, refl)

pub done_is : (v : Verdict) → is_ok v ≡ true → v ≡ Ok tt
done_is (Ok tt) e = refl
done_is (Err r) e = let z : ◌≡◌ {A = ℕ} 0 1 = cc in absurd (omega arith)

-- one rule alone
pub due_false : (b : Bool) (r : Refusal) → verdict_of ((r when b) ∷ []) ≡ Ok tt → b ≡ false
due_false true r e = done-refused (sym e)
due_false false r e = refl

pub due_true : (b : Bool) (r s : Refusal) → verdict_of ((r when b) ∷ []) ≡ Err s → b ≡ true
due_true true r s e = refl
due_true false r s e = done-refused e

-- ---- rules after others
pub verdict_then : (xs ys : List Rule) → verdict_of (xs ++ ys) ≡ settled (verdict_of xs) (verdict_of ys) (verdict_of xs)
verdict_then [] ys = refl
verdict_then (x ∷ xs) ys = go x.due (verdict_then xs ys)
  where
    go : (t : Bool) → verdict_of (xs ++ ys) ≡ settled (verdict_of xs) (verdict_of ys) (verdict_of xs)
        → cond t (Err x.refusal) (verdict_of (xs ++ ys))
        ≡ settled (cond t (Err x.refusal) (verdict_of xs)) (verdict_of ys)
        (cond t (Err x.refusal) (verdict_of xs))
    go true e = refl
    go false e = e

pub verdict-append : (xs ys : List Rule) → verdict_of xs ≡ Ok tt → verdict_of (xs ++ ys) ≡ verdict_of ys
verdict-append xs ys e = verdict_then xs ys ∙ rw e

pub verdict_first : (xs ys : List Rule) (r : Refusal) → verdict_of xs ≡ Err r → verdict_of (xs ++ ys) ≡ Err r
verdict_first xs ys r e = verdict_then xs ys ∙ rw e

pub append-done : (xs ys : List Rule) → verdict_of (xs ++ ys) ≡ Ok tt → (verdict_of xs ≡ Ok tt) × (verdict_of ys ≡ Ok tt)
append-done xs ys e = go (cases (verdict_of xs))
  where
    go : (verdict_of xs ≡ Ok tt) ⊎ ((r : Refusal) × (verdict_of xs ≡ Err r))
        → (verdict_of xs ≡ Ok tt) × (verdict_of ys ≡ Ok tt)
    go (inl d) = (d, sym (verdict-append xs ys d) ∙ e)
    go (inr r) = done-refused (sym e ∙ verdict_first xs ys r.0 r.1)

-- no rule has the number n
abbrev pub Lacks : ℕ → List Rule → Type 0
Lacks n [] = Unit {0}
Lacks n (x ∷ rs) = (number_of x.refusal ≡ n → ⊥) × Lacks n rs

pub lacks_never : (r : Refusal) (rs : List Rule) → Lacks (number_of r) rs → verdict_of rs ≡ Err r → ⊥
lacks_never r [] l e = done-refused e
lacks_never r (x ∷ rs) l e = go x.due e (lacks_never r rs l.1)
  where
    go : (d : Bool) → cond d (Err x.refusal) (verdict_of rs) ≡ Err r → (verdict_of rs ≡ Err r → ⊥) → ⊥
    go true f rest = let same : x.refusal ≡ r = cc in l.0 (ap number_of same)
    go false f rest = rest f

-- where the first rules have no such number, the refusal is that of the others
pub behind : (r : Refusal) (xs ys : List Rule) → Lacks (number_of r) xs → verdict_of (xs ++ ys) ≡ Err r
    → (verdict_of xs ≡ Ok tt) × (verdict_of ys ≡ Err r)
behind r xs ys l e = go (cases (verdict_of xs))
  where
    go : (verdict_of xs ≡ Ok tt) ⊎ ((s : Refusal) × (verdict_of xs ≡ Err s))
        → (verdict_of xs ≡ Ok tt) × (verdict_of ys ≡ Err r)
    go (inl d) = (d, sym (verdict-append xs ys d) ∙ e)
    go (inr w) = absurd (lacks_never r xs l (w.1 ∙ sym (verdict_first xs ys w.0 w.1) ∙ e))
