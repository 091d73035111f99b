-- The answers, part by part: a finding against the list of rules, a refusal and an acceptance against the whole.
-- Assumes nothing.
use Rattle.std.specs.Prelude.{Ok, Err}
use Prim.Native.Nat.{ℕ, ◌+◌, ◌-◌, ◌≤◌}
use mathlib.Core.Path.{◌≡◌, refl, sym, ap, ap₂, subst, ◌∙◌}
use Rattle.std.specs.Result.{MatchResult, IsErrAnd, result_and, result_unwrap_or}
use mathlib.Core.Bool.{Bool, true, false, cond, not, ◌&&◌, ◌||◌}
use mathlib.Core.List.{List, [], ◌∷◌, ◌++◌}
use native.Mathlib.Omega.{arith}
use lib.Dec.{ltb}
use borrow.Author.Tests.{ltb-false}
use Rattle.octets.specs.Numbers.{Bytes}
use Rattle.refusals.specs.declared.Which.{Which}
use Rattle.refusals.specs.declared.Which.TheVariants.{First, Second}
use Rattle.refusals.specs.declared.Refusal.{Refusal}
use Rattle.refusals.specs.declared.Refusal.TheVariants.{BadProof, WrongPosition, WrongLabel, NotNeighbours}
use Rattle.refusals.specs.declared.Refusal.TheVariants.{BadMetadata}
use Rattle.refusals.specs.Order.{Rule, ◌when◌, verdict_of, Verdict}
use Rattle.refusals.proofs.OrderLaws.{done-refused, verdict-append, verdict_first}
use Rattle.skiplist.specs.Label.{Side}
use Rattle.skiplist.specs.Equal.{side-discrete}
use Rattle.skiplist.specs.Meeting.{meets}
use Rattle.skiplist.specs.Recompute.{proved_rank}
use Rattle.skiplist.specs.Blocks.{shown, block_item, column}
use Rattle.skiplist.specs.Edits.{replaced, inserted}
use Rattle.labels.specs.declared.Side as code
use Rattle.labels.specs.CodeSides.{coded}
use Rattle.commands.specs.declared.Metadata.{Metadata}
use Rattle.commands.specs.declared.Operation.TheVariants.{Read, Replace, Insert, Delete}
use Rattle.commands.specs.declared.Command.{Command}
use Rattle.commands.specs.Admission.{admission_rules, admitted_of, least_of}
use Rattle.commands.specs.Meaning.{metadata_of_side}
use Rattle.proofbytes.specs.Reading.{count_of, place_of}
use Rattle.proofbytes.specs.Form.{well_formed}
use Rattle.std.specs.Prelude.{Result, Ok, Err}
use Rattle.gateway.specs.declared.examine.Fault.{Fault}
use Rattle.gateway.specs.declared.examine.Fault.TheVariants.{Misread, Misplaced, Mislabelled}
use Rattle.gateway.specs.Climbing.{coded_place, below_of}
use Rattle.gateway.specs.Parting.{shared_of, parts_of, only_from, remains_of}
use Rattle.gateway.specs.Checking.{𝓢, proves, ranked, rooted, proof_rules}
use Rattle.gateway.specs.Working.{finding_of, refusal_of, blamed, kept_of}
use Rattle.gateway.specs.Working.{examined_of, Passed}
use Rattle.gateway.specs.Gateway.{later_rules, opening_rules, replaced_of, inserted_of, remaining_of, answered}
use Rattle.gateway.specs.Gateway.{gateway_of, accepted_of}
use Rattle.gateway.specs.Working.{metadata_from, refused_of, one_of, after_both, after_first}
use Rattle.gateway.specs.Working.{deleted_of, worked_of}
use Rattle.gateway.proofs.Exact.{Is, replaced_is, inserted_is}
use Rattle.gateway.proofs.Meets.{total, meets_is, remains_is}
use Rattle.skiplist.proofs.Cases.{never}

-- FINDINGS AND RULES
module _ (w : Which) (s : List ℕ) (p : ℕ) (m : Metadata) where
  by_tests : (x y z : Bool) → Verdict → Verdict
  by_tests x y z v = cond (not x) (Err (BadProof w))
      (cond (not y) (Err (WrongPosition w)) (cond (not z) (Err (WrongLabel w)) v))

  pub rules_refused : {why : Refusal} (rest : List Rule) → blamed w (finding_of s p m) ≡ Err why
      → verdict_of (proof_rules w s p m ++ rest) ≡ Err why
  unfolding finding_of
  rules_refused {why} rest e = go (well_formed s) (proves s p) (ranked s m && rooted s m) e
    where
      go : (x y z : Bool) → blamed w (cond x (cond y (cond z (Ok (tt {0})) (Err Mislabelled)) (Err Misplaced)) (Err Misread)) ≡ Err why
          → cond (not x) (Err (BadProof w)) (cond (not y) (Err (WrongPosition w))
          (cond (not z) (Err (WrongLabel w)) (verdict_of rest))) ≡ Err why
      go true true true f = done-refused f
      go true true false f = f
      go true false z f = f
      go false y z f = f

  pub rules_done : (rest : List Rule) → blamed w (finding_of s p m) ≡ Ok tt
      → (verdict_of (proof_rules w s p m ++ rest) ≡ verdict_of rest) × (finding_of s p m ≡ Ok tt)
  unfolding finding_of
  rules_done rest e = go (well_formed s) (proves s p) (ranked s m && rooted s m) e
    where
      go : (x y z : Bool) → blamed w (cond x (cond y (cond z (Ok (tt {0})) (Err Mislabelled)) (Err Misplaced)) (Err Misread)) ≡ Ok tt
          → (cond (not x) (Err (BadProof w)) (cond (not y) (Err (WrongPosition w))
          (cond (not z) (Err (WrongLabel w)) (verdict_of rest))) ≡ verdict_of rest)
          × (cond x (cond y (cond z (Ok (tt {0})) (Err Mislabelled)) (Err Misplaced)) (Err Misread) ≡ Ok (tt {0}))
      go true true true f = (refl, refl)
      go true true false f = done-refused (sym f)
      go true false z f = done-refused (sym f)
      go false y z f = done-refused (sym f)

module _ (s : List ℕ) (p : ℕ) (m : Metadata) (f : ℕ) {x : Result code.Side Fault} (e : x ≡ examined_of s p m f) where
  pub examined-side : {t : code.Side} → x ≡ Ok t → (finding_of s p m ≡ Ok tt) × (t ≡ below_of s f)
  unfolding examined_of
  examined-side {t} q = go (finding_of s p m) (sym e ∙ q)
    where
      go : (y : Result (Unit {0}) Fault) → kept_of y s f ≡ Ok t → (y ≡ Ok tt) × (t ≡ below_of s f)
      go (Ok tt) r = (refl, cc)
      go (Err z) r = let n : ◌≡◌ {A = ℕ} 0 1 = cc in absurd (omega arith)

  pub examined-fault : {z : Fault} → x ≡ Err z → finding_of s p m ≡ Err z
  unfolding examined_of
  examined-fault {z} q = go (finding_of s p m) (sym e ∙ q)
    where
      go : (y : Result (Unit {0}) Fault) → kept_of y s f ≡ Err z → y ≡ Err z
      go (Ok tt) r = let n : ◌≡◌ {A = ℕ} 0 1 = cc in absurd (omega arith)
      go (Err y) r = ap Err cc

  -- what is kept of it left out
  pub examined-finding : result_and x (Ok (tt {0})) ≡ finding_of s p m
  unfolding examined_of
  examined-finding = rw e (go (finding_of s p m))
    where
      go : (y : Result (Unit {0}) Fault) → result_and (kept_of y s f) (Ok (tt {0})) ≡ y
      go (Ok tt) = refl
      go (Err z) = refl

  -- what is kept where the verdict by it is done
  pub examined-kept : (w : Which) {y : Result (Unit {0}) Fault} → y ≡ result_and x (Ok (tt {0})) → {v : Verdict} → v ≡ blamed w y
      → v ≡ Ok tt → (d : code.Side) {t : code.Side} → t ≡ result_unwrap_or x d → (finding_of s p m ≡ Ok tt) × (t ≡ below_of s f)
  unfolding examined_of
  examined-kept w ey ev q d et =
      let g = (rules_done w s p m [] (sym (ev ∙ ap (blamed w) (ey ∙ examined-finding)) ∙ q)).1 in
      (g, et ∙ ap (λ z. result_unwrap_or z d) e ∙ ap (λ z. result_unwrap_or (kept_of z s f) d) g)

-- a finding handed on with what P says of its fault
module _ {A : Type 0} (P : Fault → Refusal → Type 0) {x : Result A Fault} {y : Result A Refusal}
    (e : MatchResult x (λ t. y ≡ Ok t) (λ f. IsErrAnd y (P f))) where
  pub blamed-ok : {t : A} → y ≡ Ok t → x ≡ Ok t
  blamed-ok {t} q = go x e
    where
      go : (z : Result A Fault) → MatchResult z (λ t. y ≡ Ok t) (λ f. IsErrAnd y (P f)) → z ≡ Ok t
      go (Ok u) r = let n : u ≡ t = cc in ap Ok n
      go (Err f) r = absurd (subst (λ (v : Result A Refusal). IsErrAnd v (P f)) q r)

  pub blamed-err : {why : Refusal} → y ≡ Err why → (f : Fault) × (x ≡ Err f) × P f why
  blamed-err {why} q = go x e
    where
      go : (z : Result A Fault) → MatchResult z (λ t. y ≡ Ok t) (λ f. IsErrAnd y (P f))
          → (f : Fault) × (z ≡ Err f) × P f why
      go (Ok u) r = let n : ◌≡◌ {A = ℕ} 0 1 = cc in absurd (omega arith)
      go (Err f) r = (f, refl, subst (λ (v : Result A Refusal). IsErrAnd v (P f)) q r)

-- what is kept of a proof whose finding was handed on
pub handed-side : (s : List ℕ) (p : ℕ) (m : Metadata) (f : ℕ) {x : Result code.Side Fault} → x ≡ examined_of s p m f
    → (P : Fault → Refusal → Type 0) {y : Result code.Side Refusal} → MatchResult x (λ t. y ≡ Ok t) (λ z. IsErrAnd y (P z))
    → {t : code.Side} → y ≡ Ok t → (finding_of s p m ≡ Ok tt) × (t ≡ below_of s f)
handed-side s p m f ex P e q = examined-side s p m f ex (blamed-ok P e q)

-- A REFUSAL AND AN ACCEPTANCE
pub answered-refused : (v : Verdict) (why : Refusal) (tag : List ℕ) (new m : Metadata) → v ≡ Err why
    → refused_of m why ≡ answered v tag new m
answered-refused v why tag new m e = sym (rw e)

pub answered-done : (v : Verdict) (tag : List ℕ) (new m : Metadata) → v ≡ Ok tt → accepted_of tag new
    ≡ answered v tag new m
answered-done v tag new m e = sym (rw e)

pub metadata_is : {t : code.Side} {r : Side} → Is t r → metadata_from t ≡ metadata_of_side r
metadata_is i = λ j. record { count = i.rank j; label = i.label j }

-- ONE PROOF, and the rules after it
module _ (m : Metadata) (p : ℕ) (s : List ℕ) {v : Verdict} (e : v ≡ blamed First (finding_of s p m)) where
  pub one_fine : v ≡ Ok tt → finding_of s p m ≡ Ok tt
  one_fine q = (rules_done First s p m [] (sym e ∙ q)).1

  module _ (rest : List Rule) (new : Metadata) where
    pub one_refused : {why : Refusal} → v ≡ Err why → refused_of m why ≡ one_of m p s rest new
    unfolding one_of
    one_refused {why} q =
        answered-refused (verdict_of (proof_rules First s p m ++ rest)) why (shown (place_of s).item) new m
        (rules_refused First s p m rest (sym e ∙ q))

    pub one_later : {why : Refusal} → v ≡ Ok tt → verdict_of rest ≡ Err why → refused_of m why ≡ one_of m p s rest new
    unfolding one_of
    one_later {why} q r =
        answered-refused (verdict_of (proof_rules First s p m ++ rest)) why (shown (place_of s).item) new m
        ((rules_done First s p m rest (sym e ∙ q)).0 ∙ r)

    pub one_done : {tag : List ℕ} {n : Metadata} → v ≡ Ok tt → verdict_of rest ≡ Ok tt → tag ≡ shown (place_of s).item
        → n ≡ new → accepted_of tag n ≡ one_of m p s rest new
    unfolding one_of
    one_done q r et en =
        ap₂ accepted_of et en ∙ answered-done _ _ new m ((rules_done First s p m rest (sym e ∙ q)).0 ∙ r)

-- what Replace and Insert predict
module _ (s : List ℕ) (m : Metadata) (small : m.count ≤ 4096) (passed : Passed s m) where
  pub replace_new : (tag : List ℕ) {k : ℕ} {x : code.Side} {n : Metadata} → k ≡ count_of s → x
      ≡ replaced coded (block_item tag) (coded_place s k) → n ≡ metadata_from x
      → n ≡ replaced_of tag s
  replace_new tag ek ex en =
      en ∙ ap metadata_from (ex ∙ ap (λ i. replaced coded (block_item tag) (coded_place s i)) ek)
      ∙ metadata_is (replaced_is s (count_of s) (block_item tag) (omega (arith, total s m small passed)))

  pub insert_new : (h : ℕ) (tag : List ℕ) {k : ℕ} {x : code.Side} {n : Metadata} → k ≡ count_of s
      → x ≡ inserted coded (column (record { height = h; tag = tag })) (coded_place s k) → n ≡ metadata_from x → n
      ≡ inserted_of h tag s
  insert_new h tag ek ex en =
      en ∙ ap metadata_from (ex ∙ ap (λ i. inserted coded (column (record { height = h; tag = tag }))
      (coded_place s i)) ek)
      ∙ metadata_is (inserted_is s (count_of s) (column (record { height = h; tag = tag }))
      (omega (arith, total s m small passed)))

-- Insert's, with no word of metadata: what a proof proves bounds it
pub insert_of : (s : List ℕ) → well_formed s ≡ true → proved_rank 𝓢 (place_of s) ≤ 4096 → (h : ℕ) (tag : List ℕ) {k : ℕ} {x : code.Side}
    {n : Metadata} → k ≡ count_of s → x ≡ inserted coded (column (record { height = h; tag = tag })) (coded_place s k)
    → n ≡ metadata_from x → n ≡ inserted_of h tag s
insert_of s formed few h tag =
    insert_new s (record { count = proved_rank 𝓢 (place_of s); label = [] }) few (record { formed = formed; counted = refl }) h tag

-- DELETE
module _ (m : Metadata) (small : m.count ≤ 4096) (a b : List ℕ) (ba : Bytes a) (bb : Bytes b) (pa : Passed a m)
    (pb : Passed b m)
    {j k l : ℕ} {u v : code.Side} (ej : j ≡ shared_of a b) (ek : k ≡ count_of a) (el : l ≡ count_of b)
    (eu : u ≡ below_of a (j + 1)) (ev : v ≡ below_of b (j + 1))
    {x : Bool} (ex : x ≡ parts_of a k b l j u v && only_from a k b l j) where
  meets_test : meets 𝓢 side-discrete (place_of a) (place_of b) ≡ x
  meets_test = sym (ex ∙ rw (eu, ev, ej, ek, el) (sym (meets_is a b m small ba bb pa pb)))

  pub join_refused : x ≡ false → refused_of m NotNeighbours ≡ after_both m a b
  unfolding after_both
  join_refused q = sym (rw (meets_test, q))

  only-true : x ≡ true → only_from a (count_of a) b (count_of b) (shared_of a b) ≡ true
  only-true q = rw (ej, ek, el) at (last (parts_of a k b l j u v) (only_from a k b l j) (sym ex ∙ q))
    where
      last : (y z : Bool) → y && z ≡ true → z ≡ true
      last true z f = f
      last false z f = never cc

  pub join_done : x ≡ true → {tag : List ℕ} {n : Metadata} {t : code.Side} → tag ≡ shown (place_of b).item → t
      ≡ remains_of a k b l j → n ≡ metadata_from t
      → accepted_of tag n ≡ after_both m a b
  unfolding after_both
  join_done q et er en =
      let same : remains_of a k b l j ≡ remains_of a (count_of a) b (count_of b) (shared_of a b) = rw (ej, ek, el) in
      ap₂ accepted_of et (en ∙ ap metadata_from (er ∙ same)
      ∙ metadata_is (remains_is a b m small ba bb pa pb (only-true q)))
      ∙ sym (rw (meets_test, q))

module _ (m : Metadata) (p : ℕ) (a b : List ℕ) where
  pub second-refused : {why : Refusal} → blamed Second (finding_of b p m) ≡ Err why → refused_of m why ≡ after_first m p a b
  unfolding after_first
  second-refused {why} q =
      answered-refused (verdict_of (later_rules Delete m p [] a b)) why (shown (place_of b).item) (remaining_of a b) m
      (rules_refused Second b p m ((NotNeighbours when not (meets 𝓢 side-discrete (place_of a) (place_of b))) ∷ []) q)

  pub second_fine : blamed Second (finding_of b p m) ≡ Ok tt → finding_of b p m ≡ Ok tt
  second_fine q = (rules_done Second b p m [] q).1

  pub second-done : finding_of b p m ≡ Ok (tt {0}) → after_both m a b ≡ after_first m p a b
  unfolding after_first after_both
  second-done q =
      sym (ap (λ z. answered z (shown (place_of b).item) (remaining_of a b) m)
      (rules_done Second b p m ((NotNeighbours when not (meets 𝓢 side-discrete (place_of a) (place_of b))) ∷ [])
      (ap (blamed Second) q)).0)

  pub delete_refused : {x : Fault} {why : Refusal} → finding_of a (p - 1) m ≡ Err x → why ≡ refusal_of First x
      → refused_of m why ≡ deleted_of m p a b
  unfolding deleted_of
  delete_refused {why = why} q r =
      answered-refused (verdict_of (proof_rules First a (p - 1) m ++ later_rules Delete m p [] a b)) why
      (shown (place_of b).item) (remaining_of a b) m
      (rules_refused First a (p - 1) m (later_rules Delete m p [] a b) (ap (blamed First) q ∙ ap Err (sym r)))

  pub delete_done : finding_of a (p - 1) m ≡ Ok tt → after_first m p a b ≡ deleted_of m p a b
  unfolding after_first deleted_of
  delete_done q =
      sym (ap (λ z. answered z (shown (place_of b).item) (remaining_of a b) m)
      (rules_done First a (p - 1) m (later_rules Delete m p [] a b) (ap (blamed First) q)).0)

-- ANY COMMAND
module _ (m : Metadata) (k : Command) (a b : List ℕ) where
  pub worked-read : k.operation ≡ Read → one_of m k.position a [] m ≡ worked_of m k a b
  unfolding one_of worked_of
  worked-read e = sym (rw e)

  pub worked-replace : k.operation ≡ Replace → one_of m k.position a [] (replaced_of k.tag a) ≡ worked_of m k a b
  unfolding one_of worked_of
  worked-replace e = sym (rw e)

  pub worked-insert : k.operation ≡ Insert
      → one_of m k.position a (later_rules Insert m k.position k.tag a []) (inserted_of k.height k.tag a)
      ≡ worked_of m k a b
  unfolding one_of worked_of
  worked-insert e = sym (rw e)

  pub worked-delete : k.operation ≡ Delete → deleted_of m k.position a b ≡ worked_of m k a b
  unfolding deleted_of worked_of
  worked-delete e = sym (rw e)

-- THE OPENING: 12, 2, 3, 4
module _ (m : Metadata) (k : Command) (a b : List ℕ) where
  pub opening-worked : verdict_of (opening_rules m k) ≡ Ok tt → worked_of m k a b ≡ gateway_of m k a b
  unfolding worked_of gateway_of
  opening-worked e = sym (rw (verdict-append (opening_rules m k) _ e))

  pub opening-refused : {why : Refusal} → verdict_of (opening_rules m k) ≡ Err why → refused_of m why
      ≡ gateway_of m k a b
  unfolding gateway_of
  opening-refused {why} e = sym (rw (verdict_first (opening_rules m k) _ why e))

module _ (m : Metadata) (k : Command) where
  pub over_count : ltb 4096 m.count ≡ true → verdict_of (opening_rules m k) ≡ Err BadMetadata
  over_count e = rw e

  pub within_count : ltb 4096 m.count ≡ false → verdict_of (opening_rules m k) ≡ admitted_of k m.count
  unfolding admitted_of
  within_count e = rw e

-- what an opening that is done says
module _ (m : Metadata) (k : Command) (e : verdict_of (opening_rules m k) ≡ Ok tt) where
  pub opening_count : m.count ≤ 4096
  opening_count = go (ltb 4096 m.count) refl e
    where
      go : (x : Bool) → ltb 4096 m.count ≡ x → cond x (Err BadMetadata)
          (verdict_of (admission_rules k m.count)) ≡ Ok tt → m.count ≤ 4096
      go true q f = never cc
      go false q f = ltb-false 4096 m.count q

  pub opening_admitted : verdict_of (admission_rules k m.count) ≡ Ok tt
  opening_admitted = go (ltb 4096 m.count) e
    where
      go : (x : Bool) → cond x (Err BadMetadata) (verdict_of (admission_rules k m.count)) ≡ Ok tt
          → verdict_of (admission_rules k m.count) ≡ Ok tt
      go true f = never cc
      go false f = f

  pub opening_least : least_of k.operation ≤ k.position
  opening_least = go (ltb k.position (least_of k.operation)) (ltb m.count k.position) refl _ _
      opening_admitted
    where
      go : (x y : Bool) → ltb k.position (least_of k.operation) ≡ x → (r : Refusal) (v : Verdict)
          → cond (x || y) (Err r) v ≡ Ok tt
          → least_of k.operation ≤ k.position
      go true y q r v f = never cc
      go false y q r v f = ltb-false _ _ q
