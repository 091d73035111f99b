-- Folds from the stop upwards: one entry more, all entries, and the entries of one kind.
-- Assumes nothing.
use Prim.Native.Nat.{ℕ, ◌-◌, ◌≤◌, ◌<◌}
use mathlib.Core.Path.{◌≡◌, refl, sym, ap, ◌∙◌}
use mathlib.Core.List.{List, [], ◌∷◌, ◌++◌}
use mathlib.Core.Bool.{Bool, true, false, cond}
use lib.Dec.{eqb}
use Rattle.skiplist.specs.Entry.{Entry, down, right, pass}
use Rattle.skiplist.specs.Recompute.{push}
use Rattle.skiplist.specs.Merge.{rights, downs}
use Rattle.skiplist.specs.Label as label
use Rattle.skiplist.specs.Blocks.{item_of}
use Rattle.labels.specs.declared.Side.{Side}
use Rattle.labels.specs.CodeSides.{coded}
use Rattle.proofbytes.specs.declared.read.Fields.{Fields}
use Rattle.proofbytes.specs.Reading.{entry_of, entry_at, entries_from}
use Rattle.proofbytes.proofs.ReadingLaws.{entries_none, entries_up}
use Rattle.gateway.specs.Climbing.{coding, climbed, chosen, taken, push_if}

pub chosen_is : (x y : Bool) (e : Fields) → chosen x y (entry_of e) ≡ cond (eqb e.kind 0) x y
unfolding entry_of
chosen_is x y e = go (eqb e.kind 0) (eqb e.level 0)
  where
    go : (p q : Bool)
        → chosen x y (cond p (down e.level (record { rank = e.number; label = e.bytes }))
        (cond q (pass (item_of e.number e.bytes)) (right e.level
        (record { rank = e.number; label = e.bytes })))) ≡ cond p x y
    go true q = refl
    go false true = refl
    go false false = refl

module _ (x y : Bool) (e : Fields) (t : Side) where
  pub push-taken : {b : Bool} → b ≡ cond (eqb e.kind 0) x y → b ≡ true → push coded (coding (entry_of e)) t
      ≡ push_if x y (entry_of e) t
  push-taken p q = sym (rw (chosen_is x y e, ← p, q))

  pub push_left : {b : Bool} → b ≡ cond (eqb e.kind 0) x y → b ≡ false → t ≡ push_if x y (entry_of e) t
  push_left p q = sym (rw (chosen_is x y e, ← p, q))

pub taken-cons : (x y : Bool) (e : Entry label.Side) (p : List (Entry label.Side)) (t : Side)
    → climbed (taken x y (e ∷ p)) t ≡ push_if x y e (climbed (taken x y p) t)
taken-cons x y e p t = go (chosen x y e)
  where
    go : (b : Bool) → climbed (cond b (e ∷ taken x y p) (taken x y p)) t
        ≡ cond b (push coded (coding e) (climbed (taken x y p) t)) (climbed (taken x y p) t)
    go true = refl
    go false = refl

pub taken_all : (p : List (Entry label.Side)) → taken true true p ≡ p
taken_all [] = refl
taken_all (down l s ∷ p) = rw (taken_all p)
taken_all (right l s ∷ p) = rw (taken_all p)
taken_all (pass c ∷ p) = rw (taken_all p)

pub taken-rights : (p : List (Entry label.Side)) → taken false true p ≡ rights p
taken-rights [] = refl
taken-rights (down l s ∷ p) = taken-rights p
taken-rights (right l s ∷ p) = rw (taken-rights p)
taken-rights (pass c ∷ p) = rw (taken-rights p)

pub taken-downs : (p : List (Entry label.Side)) → taken true false p ≡ downs p
taken-downs [] = refl
taken-downs (down l s ∷ p) = rw (taken-downs p)
taken-downs (right l s ∷ p) = taken-downs p
taken-downs (pass c ∷ p) = taken-downs p

-- what entries make of what others make is what all of them make
pub climbed-append : (p q : List (Entry label.Side)) (t : Side) → climbed (p ++ q) t ≡ climbed p (climbed q t)
climbed-append [] q t = refl
climbed-append (e ∷ p) q t = ap (push coded (coding e)) (climbed-append p q t)

module _ (s : List ℕ) (x y : Bool) (t : Side) where
  pub fold_none : (i n : ℕ) → n ≡ 0 → t ≡ climbed (taken x y (entries_from s i n)) t
  fold_none i n e = rw (entries_none s i n e)

  pub fold_up : (i k : ℕ) {a b : Side} → 0 < i → i ≤ k → a ≡ climbed (taken x y (entries_from s i (k - i))) t → b
      ≡ push_if x y (entry_at s (i - 1)) a
      → b ≡ climbed (taken x y (entries_from s (i - 1) (k - (i - 1)))) t
  fold_up i k p q ea eb =
      eb ∙ ap (push_if x y (entry_at s (i - 1))) ea
      ∙ sym (taken-cons x y (entry_at s (i - 1)) (entries_from s i (k - i)) t)
      ∙ ap (λ (l : List (Entry label.Side)). climbed (taken x y l) t) (sym (entries_up s i k p q))

  pub fold_done : (i f k : ℕ) {a : Side} → i ≡ f → a ≡ climbed (taken x y (entries_from s i (k - i))) t
      → a ≡ climbed (taken x y (entries_from s f (k - f))) t
  fold_done i f k e q = rw e at q
