-- What a form that is kept says of the bytes: the header's length, and, entry by entry, the fields.
-- Assumes nothing.
use Prim.Native.Nat.{ℕ, ◌+◌, ◌-◌, ◌≤◌, ◌%◌}
use mathlib.Core.Path.{◌≡◌, refl, sym, ap}
use mathlib.Core.Logic.{◌⊎◌, inl, inr}
use mathlib.Core.Bool.{Bool, true, false, cond, ◌&&◌}
use mathlib.Core.List.{List}
use native.Mathlib.Omega.{arith}
use Rattle.std.specs.Prelude.{Option, None, Some}
use Rattle.std.proofs.lemmas.Option.{none-some, cond_some}
use lib.Dec.{leb, eqb}
use lib.ListN.{length, get_or}
use borrow.Author.Tests.{leb-true, eqb-true, eqb-false}
use Rattle.octets.specs.Numbers.{number_at}
use Rattle.octets.specs.Runs.{all_zero}
use Rattle.sha256.specs.Hash.{sha256}
use Rattle.skiplist.specs.Recompute.{proved_position, proved_rank}
use Rattle.skiplist.specs.Label.{sides}
use Rattle.skiplist.proofs.Cases.{both}
use Rattle.proofbytes.specs.declared.read.Fields.{Fields}
use Rattle.proofbytes.specs.declared.read.Beside.{Beside}
use Rattle.proofbytes.specs.declared.read.Proven.{Proven}
use Rattle.proofbytes.specs.Reading.{at, count_of, Sized, place_of}
use Rattle.proofbytes.specs.Form.{within, down_of, right_of, leaf_fits, pass_of, judged_of, beside_fits, stop_fits}
use Rattle.proofbytes.specs.Form.{header_fits, walk_fits, well_formed, proven_by, formed_of}

-- by a test whose other arm is None; by a test of two arms
only : {A : Type 0} {y : A} (b : Bool) (x : Option A) → cond b x None ≡ Some y → (b ≡ true) × (x ≡ Some y)
only true x e = (refl, e)
only false x e = absurd (none-some _ e)

arms : {A : Type 0} {z : A} (b : Bool) (x y : A) → cond b x y ≡ z → ((b ≡ true) × (x ≡ z)) ⊎ ((b ≡ false) × (y ≡ z))
arms true x y e = inl (refl, e)
arms false x y e = inr (refl, e)

some_inj : {A : Type 0} {x y : A} → Some x ≡ Some y → x ≡ y
some_inj e = cc

pub leaf_cases : (own : ℕ) (tag : List ℕ) → leaf_fits own tag ≡ true → ((own ≡ 0) × (all_zero tag ≡ true)) ⊎ (own ≡ 1)
unfolding leaf_fits
leaf_cases own tag e = go (arms (eqb own 0) (all_zero tag) (eqb own 1) e)
  where
    go : ((eqb own 0 ≡ true) × (all_zero tag ≡ true)) ⊎ ((eqb own 0 ≡ false) × (eqb own 1 ≡ true))
        → ((own ≡ 0) × (all_zero tag ≡ true)) ⊎ (own ≡ 1)
    go (inl t) = inl (eqb-true own 0 t.0, t.1)
    go (inr t) = inr (eqb-true own 1 t.1)

pub beside_cases : (rank : ℕ) (label : List ℕ) → beside_fits rank label ≡ true
    → ((rank ≡ 0) × (all_zero label ≡ true)) ⊎ ((1 ≤ rank) × (rank ≤ 4096))
unfolding beside_fits
beside_cases rank label e = go (arms (eqb rank 0) (all_zero label) (leb rank 4096) e)
  where
    go : ((eqb rank 0 ≡ true) × (all_zero label ≡ true)) ⊎ ((eqb rank 0 ≡ false) × (leb rank 4096 ≡ true))
        → ((rank ≡ 0) × (all_zero label ≡ true)) ⊎ ((1 ≤ rank) × (rank ≤ 4096))
    go (inl t) = inl (eqb-true rank 0 t.0, t.1)
    go (inr t) = let h = eqb-false rank 0 t.0 in inr (omega (arith, h), leb-true rank 4096 t.1)

-- an entry that fits
pub data Fitting (e : Fields) (most next : ℕ) : Type 0 where
  is_down : e.kind ≡ 0 → 1 ≤ e.level → e.level ≤ 15 → e.level ≤ most → 1 ≤ e.number → e.number ≤ 4096
      → e.level - 1 ≡ next → Fitting e most next
  is_right : e.kind ≡ 1 → 1 ≤ e.level → e.level ≤ 15 → e.level ≤ most → e.number ≤ 4096 → e.level ≡ next
      → Fitting e most next
  is_pass : e.kind ≡ 1 → e.level ≡ 0 → leaf_fits e.number e.bytes ≡ true → 0 ≡ next → Fitting e most next

module _ (e : Fields) (most next : ℕ) where
  as_down : e.kind ≡ 0 → within 1 15 e.level ≡ true → down_of e.level e.number most ≡ Some next
      → Fitting e most next
  unfolding down_of
  as_down k w f =
      let a = both (leb 1 e.level) _ w in
      let b = only (within 1 4096 e.number && leb e.level most) _ f in
      let d = both (within 1 4096 e.number) _ b.0 in
      let r = both (leb 1 e.number) _ d.0 in
      is_down k (leb-true _ _ a.0) (leb-true _ _ a.1) (leb-true _ _ d.1) (leb-true _ _ r.0)
      (leb-true _ _ r.1) (some_inj b.1)

  as_right : e.kind ≡ 1 → eqb e.level 0 ≡ false → leb e.level 15 ≡ true → right_of e.level e.number most
      ≡ Some next → Fitting e most next
  unfolding right_of
  as_right k z w f =
      let b = only (leb e.number 4096 && leb e.level most) _ f in
      let d = both (leb e.number 4096) _ b.0 in
      let h = eqb-false e.level 0 z in
      is_right k (omega (arith, h)) (leb-true _ _ w) (leb-true _ _ d.1) (leb-true _ _ d.0) (some_inj b.1)

  as_pass : e.kind ≡ 1 → e.level ≡ 0 → pass_of e.number e.bytes ≡ Some next → Fitting e most next
  unfolding pass_of
  as_pass k z f = let b = only (leaf_fits e.number e.bytes) _ f in is_pass k z b.0 (some_inj b.1)

  pub fitting_cases : judged_of e most ≡ Some next → Fitting e most next
  unfolding judged_of
  fitting_cases f = kinds (arms (eqb e.kind 0) _ _ f)
    where
      levels : e.kind ≡ 1
          → ((eqb e.level 0 ≡ true) × (pass_of e.number e.bytes ≡ Some next))
          ⊎ ((eqb e.level 0 ≡ false) × (cond (leb e.level 15) (right_of e.level e.number most) None
          ≡ Some next)) → Fitting e most next
      levels k (inl t) = as_pass k (eqb-true e.level 0 t.0) t.1
      levels k (inr t) = let a = only (leb e.level 15) _ t.1 in as_right k t.0 a.0 a.1

      kinds : ((eqb e.kind 0 ≡ true) × (cond (within 1 15 e.level) (down_of e.level e.number most) None
          ≡ Some next))
          ⊎ ((eqb e.kind 0 ≡ false) × (cond (eqb e.kind 1)
          (cond (eqb e.level 0) (pass_of e.number e.bytes)
          (cond (leb e.level 15) (right_of e.level e.number most) None)) None ≡ Some next))
          → Fitting e most next
      kinds (inl t) = let a = only (within 1 15 e.level) _ t.1 in
          as_down (eqb-true e.kind 0 t.0) a.0 a.1
      kinds (inr t) = let a = only (eqb e.kind 1) _ t.1 in
          levels (eqb-true e.kind 1 a.0) (arms (eqb e.level 0) _ _ a.1)

-- a stop that fits
pub record StopFitting (e : Fields) (b : Beside) : Type 0 where
  pub kind : e.kind ≡ 2
  pub level : e.level ≡ 0
  pub leaf : leaf_fits e.number e.bytes ≡ true
  pub side : beside_fits b.rank b.label ≡ true

pub stop_fitting : (e : Fields) (b : Beside) → stop_fits e b ≡ true → StopFitting e b
unfolding stop_fits
stop_fitting e b f =
    let x = both (eqb e.kind 2) _ f in
    let y = both (eqb e.level 0) _ x.1 in
    let z = both (leaf_fits e.number e.bytes) _ y.1 in
    record { kind = eqb-true _ _ x.0; level = eqb-true _ _ y.0; leaf = z.0; side = z.1 }

-- a header that fits
pub record Headed (s : List ℕ) : Type 0 where
  pub size : Sized s
  pub version : get_or s 0 0 ≡ 1
  pub stated : number_at 2 s 1 ≡ length s - 3

pub header-headed : (s : List ℕ) → header_fits s ≡ true → Headed s
unfolding header_fits
header-headed s e =
    let a = both (leb 77 (length s)) _ e in
    let b = both (leb (length s) 7677) _ a.1 in
    let c = both (eqb ((length s - 77) % 38) 0) _ b.1 in
    let d = both (eqb (get_or s 0 0) 1) _ c.1 in
    let least : 77 ≤ length s = leb-true 77 (length s) a.0 in
    let most : length s ≤ 7677 = leb-true (length s) 7677 b.0 in
    let whole : (length s - 77) % 38 ≡ 0 = eqb-true ((length s - 77) % 38) 0 c.0 in
    record {
      size = record { few = omega (arith, most); long = omega (arith, least, whole) };
      version = eqb-true (get_or s 0 0) 1 d.0;
      stated = eqb-true (number_at 2 s 1) (length s - 3) d.1;
    }

module _ (s : List ℕ) (e : header_fits s ≡ true) where
  pub form_few : count_of s ≤ 200
  form_few = (header-headed s e).size.few

  pub form_long : at (count_of s) + 74 ≤ length s
  form_long = omega (arith, (header-headed s e).size.long)

module _ (s : List ℕ) (e : well_formed s ≡ true) where
  pub form_headed : Headed s
  unfolding well_formed
  form_headed = header-headed s (both (header_fits s) (walk_fits s (count_of s)) e).0

  pub form_sized : Sized s
  form_sized = form_headed.size

-- what the form's answer says
pub formed-none : (s : List ℕ) → formed_of s ≡ None → well_formed s ≡ false
unfolding formed_of
formed-none s e = go (well_formed s) e
  where
    go : (b : Bool) → cond b (Some (proven_by (place_of s))) None ≡ None → b ≡ false
    go true f = absurd (none-some _ (sym f))
    go false f = refl

pub record Proved (s : List ℕ) (position rank : ℕ) : Type 0 where
  pub formed : well_formed s ≡ true
  pub position_is : proved_position (sides sha256) (place_of s) ≡ position
  pub rank_is : proved_rank (sides sha256) (place_of s) ≡ rank

pub formed-some : (s : List ℕ) (x : Proven) → formed_of s ≡ Some x → Proved s x.position x.rank
unfolding formed_of
formed-some s x e =
    let a = cond_some (well_formed s) (proven_by (place_of s)) x e in
    record { formed = a.0; position_is = ap (λ (y : Proven). y.position) a.1; rank_is = ap (λ (y : Proven). y.rank) a.1 }
