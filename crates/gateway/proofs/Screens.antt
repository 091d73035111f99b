-- The check of one proof, test by test: what is found before anything is hashed, the label compared, and both as one
-- finding.
-- Assumes nothing.
use Prim.Native.Nat.{ℕ, ◌+◌, ◌-◌, ◌≤◌}
use mathlib.Core.Path.{◌≡◌, refl, sym, ap, ◌∙◌}
use mathlib.Core.Bool.{Bool, true, false, cond, ◌&&◌}
use mathlib.Core.List.{List, ◌++◌}
use native.Mathlib.Omega.{arith}
use lib.Dec.{eqb}
use borrow.Author.Tests.{eq-eqb, ne_eqb, eqb-true}
use Rattle.octets.specs.Runs.{same}
use Rattle.skiplist.specs.Recompute.{proved_rank}
use Rattle.skiplist.specs.Find.{own_at}
use Rattle.commands.specs.declared.Metadata.{Metadata}
use Rattle.labels.specs.declared.Side.{Side}
use Rattle.proofbytes.specs.declared.read.Fields.{Fields}
use Rattle.proofbytes.specs.declared.read.Proven.{Proven}
use Rattle.proofbytes.specs.Reading.{fields_at, entries_from, count_of, Sized, place_of}
use Rattle.proofbytes.specs.Form.{well_formed, formed_of}
use Rattle.proofbytes.proofs.FormLaws.{form_sized, formed-none, Proved, formed-some}
use Rattle.std.specs.Prelude.{Ok, Err, min, Option, None, Some}
use Rattle.gateway.specs.declared.examine.Fault.{Fault}
use Rattle.gateway.specs.declared.examine.Fault.TheVariants.{Misread, Misplaced, Mislabelled}
use Rattle.gateway.specs.Climbing.{climbed, taken, stop_leaf, below_of}
use Rattle.gateway.specs.Checking.{𝓢, proves, ranked, rooted}
use Rattle.gateway.specs.Working.{finding_of, screened_of, recomputed_of}
use Rattle.gateway.specs.Working.{kept_of, examined_of, Passed}
use Rattle.gateway.proofs.Climbs.{taken_all, climbed-append}
use Rattle.gateway.proofs.Exact.{whole_is, entries_split}
use Rattle.skiplist.proofs.Cases.{never}

-- BEFORE ANYTHING IS HASHED
pub misread : (s : List ℕ) (p : ℕ) (m : Metadata) {f : Option Proven} → f ≡ formed_of s → f ≡ None → Err Misread
    ≡ screened_of s p m
unfolding screened_of
misread s p m e q = sym (rw (formed-none s (sym e ∙ q)))

module _ (s : List ℕ) (p : ℕ) (m : Metadata) {f : Option Proven} (position rank : ℕ) (e : f ≡ formed_of s)
    (q : f ≡ Some (record { position = position; rank = rank })) where
  is : Proved s position rank
  is = formed-some s (record { position = position; rank = rank }) (sym e ∙ q)

  pub sound_sized : Sized s
  sound_sized = form_sized s is.formed

  pub far : (position ≡ p → ⊥) → Err Misplaced ≡ screened_of s p m
  unfolding screened_of proves
  far n = sym (rw (is.formed, is.position_is, ne_eqb position p n))

  module _ (near : position ≡ p) (d : Fields) (ed : d ≡ fields_at s (count_of s)) {b : Bool}
      (eb : b ≡ eqb d.number (own_at p)) where
    own_is : eqb (place_of s).item.own (own_at p) ≡ b
    own_is = ap (λ (x : Fields). eqb x.number (own_at p)) (sym ed) ∙ sym eb

    proved : proves s p ≡ b
    unfolding proves
    proved = rw (is.position_is, eq-eqb position p near, own_is)

    pub unowned : b ≡ false → Err Misplaced ≡ screened_of s p m
    unfolding screened_of
    unowned t = sym (rw (is.formed, proved, t))

    pub miscounted : b ≡ true → (rank ≡ m.count → ⊥) → Err Mislabelled ≡ screened_of s p m
    unfolding screened_of ranked
    miscounted t n = sym (rw (is.formed, proved, t, is.rank_is, ne_eqb rank m.count n))

    pub screened : b ≡ true → rank ≡ m.count → Ok tt ≡ screened_of s p m
    unfolding screened_of ranked
    screened t n = sym (rw (is.formed, proved, t, is.rank_is, eq-eqb rank m.count n))

-- what a screen says
pub record Screened (s : List ℕ) (p : ℕ) (m : Metadata) : Type 0 where
  pub formed : well_formed s ≡ true
  pub proved : proves s p ≡ true
  pub counted : ranked s m ≡ true

module _ (s : List ℕ) (p : ℕ) (m : Metadata) where
  pub screened-fine : screened_of s p m ≡ Ok tt → Screened s p m
  unfolding screened_of
  screened-fine e = go (well_formed s) (proves s p) (ranked s m) refl refl refl e
    where
      go : (x y z : Bool) → well_formed s ≡ x → proves s p ≡ y → ranked s m ≡ z
          → cond x (cond y (cond z (Ok (tt {0})) (Err Mislabelled)) (Err Misplaced)) (Err Misread) ≡ Ok (tt {0}) → Screened s p m
      go true true true u v w f = record { formed = u; proved = v; counted = w }
      go true true false u v w f = never cc
      go true false z u v w f = never cc
      go false y z u v w f = never cc

  -- a screen that finds a fault is the finding
  pub screened-fault : (x : Fault) → screened_of s p m ≡ Err x → finding_of s p m ≡ Err x
  unfolding screened_of finding_of
  screened-fault x e = go (well_formed s) (proves s p) (ranked s m) (rooted s m) e
    where
      go : (a b c d : Bool) → cond a (cond b (cond c (Ok (tt {0})) (Err Mislabelled)) (Err Misplaced)) (Err Misread) ≡ Err x
          → cond a (cond b (cond (c && d) (Ok (tt {0})) (Err Mislabelled)) (Err Misplaced)) (Err Misread) ≡ Err x
      go true true true d f = never cc
      go true true false d f = f
      go true false c d f = f
      go false b c d f = f

  pub fault-examined : (f : ℕ) {x : Fault} → screened_of s p m ≡ Err x → Err x ≡ examined_of s p m f
  unfolding examined_of
  fault-examined f {x} e = ap (λ z. kept_of z s f) (sym (screened-fault x e))

-- THE LABEL
pub counted_is : (s : List ℕ) (m : Metadata) → ranked s m ≡ true → proved_rank 𝓢 (place_of s) ≡ m.count
unfolding ranked
counted_is s m e = eqb-true _ _ e

pub rooted_is : (s : List ℕ) (m : Metadata) → ranked s m ≡ true → m.count ≤ 4096
    → same (climbed (entries_from s 0 (count_of s)) (stop_leaf s (count_of s))).label m.label ≡ rooted s m
unfolding rooted
rooted_is s m e h =
    ap (λ x. same x m.label) (whole_is s (count_of s) (omega (arith, counted_is s m e))).label

-- climbing to a place and on is climbing at once
module _ (s : List ℕ) (m : Metadata) (f : ℕ) {k at : ℕ} (ek : k ≡ count_of s) (ea : at ≡ min f k) (low : at ≤ k)
    {leaf below root : Side}
    (el : leaf ≡ stop_leaf s k) (eb : below ≡ climbed (taken true true (entries_from s at (k - at))) leaf)
    (er : root ≡ climbed (taken true true (entries_from s 0 (at - 0))) below) where
  below_is : below ≡ below_of s f
  unfolding below_of
  below_is = eb ∙ rw (taken_all (entries_from s at (k - at)), el, ea, ek)

  root_is : root ≡ climbed (entries_from s 0 (count_of s)) (stop_leaf s (count_of s))
  root_is =
      let none : at - 0 ≡ at = omega arith in
      let first : 0 + at ≡ at = omega arith in
      let both : at + (k - at) ≡ k = omega arith in
      er ∙ rw (none, taken_all (entries_from s 0 at), eb, taken_all (entries_from s at (k - at)), el)
      (sym (climbed-append (entries_from s 0 at) (entries_from s at (k - at)) (stop_leaf s k))
      ∙ ap (λ p. climbed p (stop_leaf s k))
      (ap (λ i. entries_from s 0 at ++ entries_from s i (k - at)) (sym first) ∙ sym (entries_split s at 0 (k - at))
      ∙ ap (entries_from s 0) both)
      ∙ ap (λ n. climbed (entries_from s 0 n) (stop_leaf s n)) ek)

  pub same-root : {b : Bool} → b ≡ same root.label m.label → b ≡ true
      → Ok below ≡ recomputed_of s m f
  unfolding recomputed_of
  same-root e t = sym (rw (← root_is, sym e ∙ t, below_is))

  pub other_root : {b : Bool} → b ≡ same root.label m.label → b ≡ false → Err Mislabelled ≡ recomputed_of s m f
  unfolding recomputed_of
  other_root e t = sym (rw (← root_is, sym e ∙ t))

-- THE WHOLE CHECK
pub recomputed-examined : (s : List ℕ) (p : ℕ) (m : Metadata) (f : ℕ) → m.count ≤ 4096 → Screened s p m
    → recomputed_of s m f ≡ examined_of s p m f
unfolding recomputed_of examined_of finding_of
recomputed-examined s p m f h z =
    rw (rooted_is s m z.counted h, z.formed, z.proved, z.counted) (go (rooted s m))
  where
    go : (b : Bool) → cond b (Ok (below_of s f)) (Err Mislabelled) ≡ kept_of (cond b (Ok (tt {0})) (Err Mislabelled)) s f
    go true = refl
    go false = refl

-- a finding that is fine
pub record Found (s : List ℕ) (p : ℕ) (m : Metadata) : Type 0 where
  pub formed : well_formed s ≡ true
  pub proved : proves s p ≡ true
  pub counted : ranked s m ≡ true
  pub labelled : rooted s m ≡ true

pub finding-fine : (s : List ℕ) (p : ℕ) (m : Metadata) → finding_of s p m ≡ Ok tt → Found s p m
unfolding finding_of
finding-fine s p m e = go (well_formed s) (proves s p) (ranked s m) (rooted s m) refl refl refl refl e
  where
    go : (a b c d : Bool) → well_formed s ≡ a → proves s p ≡ b → ranked s m ≡ c → rooted s m ≡ d
        → cond a (cond b (cond (c && d) (Ok (tt {0})) (Err Mislabelled)) (Err Misplaced)) (Err Misread) ≡ Ok (tt {0}) → Found s p m
    go true true true true u v w x f = record { formed = u; proved = v; counted = w; labelled = x }
    go true true true false u v w x f = never cc
    go true true false d u v w x f = never cc
    go true false c d u v w x f = never cc
    go false b c d u v w x f = never cc

pub fine-passed : (s : List ℕ) (p : ℕ) (m : Metadata) → finding_of s p m ≡ Ok tt → Passed s m
fine-passed s p m e = let z = finding-fine s p m e in record
    { formed = z.formed; counted = counted_is s m z.counted }
