-- The code's tests on bytes and sides are the model's equalities of sides, items and entries.
-- Assumes nothing.
use Prim.Native.Nat.{ℕ, ◌<◌}
use mathlib.Core.Path.{◌≡◌, refl, sym, ap, ◌∙◌}
use mathlib.Core.List.{List}
use mathlib.Core.Bool.{Bool, true, false, cond, not, ◌&&◌}
use native.Mathlib.Omega.{arith}
use lib.Dec.{eqb}
use lib.ListN.{length}
use borrow.Author.Tests.{eqb-true, eq-eqb}
use Rattle.octets.specs.Numbers.{Bytes}
use Rattle.octets.specs.Runs.{part}
use Rattle.octets.specs.Runs as runs
use Rattle.octets.proofs.RunLaws as laws
use Rattle.skiplist.specs.Row.{Item}
use Rattle.skiplist.specs.Label.{Side}
use Rattle.skiplist.specs.Label as label
use Rattle.skiplist.specs.Equal.{is, item-discrete, side-discrete, same}
use Rattle.skiplist.specs.Blocks.{item_of}
use Rattle.skiplist.proofs.EqualLaws.{same_equal, same-true}
use Rattle.skiplist.proofs.Cases.{both, never}
use Rattle.proofbytes.specs.declared.read.Fields.{Fields}
use Rattle.proofbytes.specs.declared.read.Beside.{Beside}
use Rattle.proofbytes.specs.Writing.{entry_bytes}
use Rattle.proofbytes.specs.Reading.{at, entry_of, side_from, entry_at, count_of}
use Rattle.proofbytes.specs.Form.{well_formed}
use Rattle.proofbytes.proofs.FormLaws.{form_sized}
use Rattle.proofbytes.proofs.ReadingLaws.{fields_same}
use Rattle.proofbytes.proofs.WrittenBack.{entry_written}
use Rattle.labels.specs.declared.Side as code
use Rattle.gateway.specs.Parting.{side_is, beside_is, leaf_is}
use Rattle.gateway.proofs.Exact.{Is}

-- a decision is the test that agrees with it; two tests that agree are one
is_test : {A : Type 0} (d : Dec A) (b : Bool) → (A → b ≡ true) → (b ≡ true → A) → is d ≡ b
is_test (yes a) b f g = sym (f a)
is_test (no n) true f g = absurd (n (g refl))
is_test (no n) false f g = refl

false-true : {P : Type 0} → false ≡ true → P
false-true e = never cc

agree : (x y : Bool) → (x ≡ true → y ≡ true) → (y ≡ true → x ≡ true) → x ≡ y
agree true y f g = sym (f refl)
agree false true f g = g refl
agree false false f g = refl

equal_same : (a b : List ℕ) → a ≡ b → runs.same a b ≡ true
equal_same a b e = rw (← e) (laws.same_refl a)

-- SIDES
module _ {t : code.Side} {r : Side} (i : Is t r) where
  pub side_test : (e : Fields) → is (side-discrete (record { rank = e.number; label = e.bytes }) r) ≡ side_is e t
  unfolding side_is
  side_test e = is_test (side-discrete (record { rank = e.number; label = e.bytes }) r)
      (eqb e.number t.rank && runs.same e.bytes t.label)
      (λ q. rw (eq-eqb e.number t.rank (ap (λ (x : Side). x.rank) q ∙ sym i.rank))
      (equal_same e.bytes t.label (ap (λ (x : Side). x.label) q ∙ sym i.label)))
      (λ q. let h = both (eqb e.number t.rank) (runs.same e.bytes t.label) q in
      λ j. record {
        rank = (eqb-true e.number t.rank h.0 ∙ i.rank) j;
        label = (laws.same-true e.bytes t.label h.1 ∙ i.label) j;
      })

  -- an empty right side is none that was recomputed
  pub beside_test : (b : Beside) → length r.label ≡ 32 → is (side-discrete (side_from b) r) ≡ beside_is b t
  unfolding side_from beside_is
  beside_test b long = go (eqb b.rank 0)
    where
      go : (x : Bool) → is (side-discrete (record { rank = b.rank; label = cond x label.nothing b.label }) r)
          ≡ not x && (eqb b.rank t.rank && runs.same b.label t.label)
      go true = is_test (side-discrete (record { rank = b.rank; label = label.nothing }) r) false
          (λ q. absurd (omega (arith, ap length (ap (λ (x : Side). x.label) q)))) (λ q. false-true q)
      go false = is_test (side-discrete (record { rank = b.rank; label = b.label }) r)
          (eqb b.rank t.rank && runs.same b.label t.label)
          (λ q. rw (eq-eqb b.rank t.rank (ap (λ (x : Side). x.rank) q ∙ sym i.rank))
          (equal_same b.label t.label (ap (λ (x : Side). x.label) q ∙ sym i.label)))
          (λ q. let h = both (eqb b.rank t.rank) (runs.same b.label t.label) q in
          λ j. record {
            rank = (eqb-true b.rank t.rank h.0 ∙ i.rank) j;
            label = (laws.same-true b.label t.label h.1 ∙ i.label) j;
          })

-- ITEMS
module _ (e d : Fields) where
  pub leaf_test : is (item-discrete (item_of e.number e.bytes) (item_of d.number d.bytes)) ≡ leaf_is e d
  unfolding leaf_is
  leaf_test = is_test (item-discrete (item_of e.number e.bytes) (item_of d.number d.bytes)) _ there back
    where
      there : item_of e.number e.bytes ≡ item_of d.number d.bytes
          → eqb e.number d.number && cond (eqb e.number 0) true (runs.same e.bytes d.bytes) ≡ true
      there q = rw (eq-eqb e.number d.number own) (go (eqb e.number 0) refl)
        where
          own : e.number ≡ d.number
          own = ap (λ (x : Item). x.own) q

          go : (x : Bool) → eqb e.number 0 ≡ x → cond x true (runs.same e.bytes d.bytes) ≡ true
          go true z = refl
          go false z = equal_same e.bytes d.bytes (sym (rw z) ∙ ap (λ (x : Item). x.third) q ∙ rw (← own, z))

      back : eqb e.number d.number && cond (eqb e.number 0) true (runs.same e.bytes d.bytes) ≡ true
          → item_of e.number e.bytes ≡ item_of d.number d.bytes
      back q = λ j. record { own = own j; third = third j }
        where
          h : (eqb e.number d.number ≡ true) × (cond (eqb e.number 0) true (runs.same e.bytes d.bytes)
              ≡ true)
          h = both (eqb e.number d.number) _ q

          own : e.number ≡ d.number
          own = eqb-true _ _ h.0

          go : (x : Bool) → cond x true (runs.same e.bytes d.bytes) ≡ true → cond x label.nothing e.bytes
              ≡ cond x label.nothing d.bytes
          go true z = refl
          go false z = laws.same-true _ _ z

          third : (item_of e.number e.bytes).third ≡ (item_of d.number d.bytes).third
          third = rw (← own) (go (eqb e.number 0) h.1)

-- ENTRIES: well formed ones are equal exactly where their bytes are
pub entry_test : (a b : List ℕ) → Bytes a → Bytes b → well_formed a ≡ true → well_formed b ≡ true → (j : ℕ)
    → j < count_of a → j < count_of b
    → same side-discrete (entry_at a j) (entry_at b j) ≡ runs.same (part a (at j) 38) (part b (at j) 38)
entry_test a b ba bb fa fb j ha hb =
    let za = form_sized a fa in
    let zb = form_sized b fb in
    agree _ _
    (λ q. equal_same (part a (at j) 38) (part b (at j) 38)
    (sym (entry_written a fa ba j ha) ∙ ap entry_bytes (same-true side-discrete (entry_at a j) (entry_at b j) q)
    ∙ entry_written b fb bb j hb))
    (λ q. same_equal side-discrete (entry_at a j) (entry_at b j)
    (ap entry_of (fields_same a b j (omega (arith, za.long)) (omega (arith, zb.long))
    (laws.same-true (part a (at j) 38) (part b (at j) 38) q))))
