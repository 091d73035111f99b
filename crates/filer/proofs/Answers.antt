-- The filer's answer, part by part: a neighbour that is needed, a proof's finding against its rules, and a refusal and an acceptance against
-- the whole list.
-- Assumes nothing.
use Rattle.std.specs.Prelude.{Ok, Err}
use Prim.Native.Nat.{ℕ, ◌+◌, ◌<◌}
use mathlib.Core.Path.{◌≡◌, sym, ap, ◌∙◌}
use mathlib.Core.Logic.{◌⊎◌, inl, inr}
use mathlib.Core.Bool.{Bool, true, false, not, ◌&&◌}
use mathlib.Core.List.{List, [], ◌++◌}
use lib.Dec.{ltb}
use lib.ListN.{length}
use borrow.Author.Tests.{lt-ltb, ltb-true, ltb-false}
use Rattle.octets.specs.Runs.{same}
use Rattle.refusals.specs.declared.Which.{Which}
use Rattle.refusals.specs.declared.Which.TheVariants.{First, Second}
use Rattle.refusals.specs.declared.Refusal.{Refusal}
use Rattle.refusals.specs.declared.Refusal.TheVariants.{LongMessage, Repeated}
use Rattle.refusals.specs.Order.{Rule, verdict_of, Verdict}
use Rattle.refusals.proofs.OrderLaws.{cases, verdict-append, verdict_first}
use Rattle.sha256.specs.Hash.{sha256}
use Rattle.skiplist.specs.Blocks.{shown}
use Rattle.skiplist.specs.Commands.{repeats_at}
use Rattle.skiplist.proofs.Cases.{neither}
use Rattle.commands.specs.declared.Metadata.{Metadata}
use Rattle.labels.specs.declared.Tagged.{Tagged}
use Rattle.labels.specs.declared.Matched.{Matched}
use Rattle.labels.specs.Tags.{tag_message, most_readings, Tags, Matches}
use Rattle.labels.proofs.TagLaws.{tag-done, match-done}
use Rattle.proofbytes.specs.Reading.{Sized, place_of}
use Rattle.proofbytes.proofs.FormLaws.{form_sized}
use Rattle.gateway.specs.Checking.{proof_rules}
use Rattle.gateway.specs.Gateway.{opening_rules, inserted_of, accepted_of}
use Rattle.gateway.specs.Working.{finding_of, blamed, refused_of}
use Rattle.gateway.proofs.Answers.{rules_refused, rules_done, answered-refused, answered-done}
use Rattle.gateway.proofs.Demands.{rules_found}
use Rattle.filer.specs.Filing.{Timed, Proposal, tag_for, insertion, either, is_long, long_of, second_rules, matched}
use Rattle.filer.specs.Filing.{neighbour_rules, filed_of}
use Rattle.filer.specs.Filing.{timed}
use Rattle.filer.specs.Working.{Shown, after_first, worked_of}

-- A NEIGHBOUR THAT IS NEEDED
pub left_holds : (p n : ℕ) (l r : Bool) → either p n l r ≡ false → 0 < p → l ≡ false
left_holds p n l r e h = let x = (neither (ltb 0 p && l) (ltb p n && r) e).0 in rw (lt-ltb 0 p h) at x

pub right_holds : (p n : ℕ) (l r : Bool) → either p n l r ≡ false → p < n → r ≡ false
right_holds p n l r e h = let x = (neither (ltb 0 p && l) (ltb p n && r) e).1 in rw (lt-ltb p n h) at x

-- BLOCKS AND TAGS
pub tag_is : (time : ℕ) (readings : List ℕ) (t : Tagged) → is_long readings ≡ false → Tags time readings t
    → t.tag ≡ tag_for (timed time readings)
tag_is time readings t h p =
    p.tag ∙ ap (λ (x : Tagged). x.tag) (tag-done time readings (ltb-false most_readings (length readings) h))

pub unmatched_is : (needed : Bool) (time : ℕ) (readings s tag : List ℕ) (x : Matched) → needed ≡ true → Shown needed readings s
    → tag ≡ shown (place_of s).item → Matches tag time readings x
    → not x.yes ≡ needed && not (matched (timed time readings) s)
unmatched_is needed time readings s tag x e can et p =
    let done = ap (λ (r : Matched). r.yes) (match-done tag time readings (can e).0) in
    ap not (p.yes ∙ done ∙ ap (same (sha256 (tag_message time readings))) et) ∙ sym (rw e)

-- ONE PROOF
pub finding-verdict : (w : Which) (s : List ℕ) (p : ℕ) (m : Metadata) → blamed w (finding_of s p m) ≡ verdict_of (proof_rules w s p m)
finding-verdict w s p m = go (cases (blamed w (finding_of s p m)))
  where
    go : (blamed w (finding_of s p m) ≡ Ok tt) ⊎ ((r : Refusal) × (blamed w (finding_of s p m) ≡ Err r))
        → blamed w (finding_of s p m) ≡ verdict_of (proof_rules w s p m)
    go (inl d) = d ∙ sym (rules_done w s p m [] d).0
    go (inr r) = r.1 ∙ sym (rules_refused w s p m [] r.1)

module _ (m : Metadata) (p : ℕ) (s : List ℕ) where
  pub second_looked : {v : Verdict} → p < m.count → v ≡ blamed Second (finding_of s (p + 1) m) → v ≡ verdict_of (second_rules m p s)
  second_looked h e = e ∙ finding-verdict Second s (p + 1) m ∙ sym (rw (lt-ltb p m.count h))

  pub second-sized : verdict_of (second_rules m p s) ≡ Ok tt → p < m.count → Sized s
  second-sized e h = form_sized s (rules_found Second s (p + 1) m (rw (lt-ltb p m.count h) at e)).formed

-- AFTER THE FIRST PROOF
pub both_shown : (m : Metadata) (p : ℕ) (left right first second : List ℕ) → Sized first
    → either p m.count (is_long left) (is_long right) ≡ false → verdict_of (second_rules m p second) ≡ Ok tt
    → Shown (ltb 0 p) left first × Shown (ltb p m.count) right second
both_shown m p left right first second sized short done = (
  λ e. (
    ltb-false most_readings (length left) (left_holds p m.count (is_long left) (is_long right) short (ltb-true 0 p e)),
    sized,
  ),
  λ e.
      let h = ltb-true p m.count e in (
        ltb-false most_readings (length right) (right_holds p m.count (is_long left) (is_long right) short h),
        second-sized m p second done h,
      ),
)

module _ (m : Metadata) (p t : ℕ) (tag : List ℕ) (left right : Timed) (first second : List ℕ) {x : Bool}
    (ex : x ≡ repeats_at p tag (shown (place_of first).item)) where
  pub comes_again : x ≡ true → Err Repeated ≡ verdict_of (after_first m p t tag left right first second)
  comes_again e = sym (rw (sym ex ∙ e))

  module _ (anew : x ≡ false) {v : Verdict} (ev : v ≡ verdict_of (second_rules m p second)) where
    rest : List Rule
    rest = neighbour_rules p m.count t left right first second

    pub second-refused : {why : Refusal} → v ≡ Err why
        → Err why ≡ verdict_of (after_first m p t tag left right first second)
    unfolding rest
    second-refused {why} e = sym (rw (sym ex ∙ anew) (verdict_first (second_rules m p second) rest why (sym ev ∙ e)))

    pub second_passed : {n : Verdict} → v ≡ Ok tt → n ≡ verdict_of (neighbour_rules p m.count t left right first second)
        → n ≡ verdict_of (after_first m p t tag left right first second)
    unfolding rest
    second_passed e en = en ∙ sym (rw (sym ex ∙ anew) (verdict-append (second_rules m p second) rest (sym ev ∙ e)))

-- FROM THE FIRST PROOF ON
module _ (m : Metadata) (q : Proposal) (first second : List ℕ) {v : Verdict}
    (ev : v ≡ blamed First (finding_of first q.position m)) where
  abbrev after : List Rule
  after = after_first m q.position q.new.time (tag_for q.new) q.left q.right first second

  pub first-refused : {why : Refusal} → v ≡ Err why → refused_of m why ≡ worked_of m q first second
  unfolding worked_of
  first-refused {why} e =
      answered-refused (verdict_of (proof_rules First first q.position m ++ after)) why (shown (place_of first).item)
      (inserted_of q.height (tag_for q.new) first) m (rules_refused First first q.position m after (sym ev ∙ e))

  module _ (passed : v ≡ Ok tt) {tag : List ℕ} (et : tag ≡ tag_for q.new) {w : Verdict}
      (ew : w ≡ verdict_of (after_first m q.position q.new.time tag q.left q.right first second)) where
    whole : w ≡ verdict_of (proof_rules First first q.position m ++ after)
    whole =
        ew ∙ ap (λ (t : List ℕ). verdict_of (after_first m q.position q.new.time t q.left q.right first second)) et
        ∙ sym (rules_done First first q.position m after (sym ev ∙ passed)).0

    pub later_refused : {why : Refusal} → w ≡ Err why → refused_of m why ≡ worked_of m q first second
    unfolding worked_of
    later_refused {why} e =
        answered-refused (verdict_of (proof_rules First first q.position m ++ after)) why (shown (place_of first).item)
        (inserted_of q.height (tag_for q.new) first) m (sym whole ∙ e)

    pub all_passed : w ≡ Ok tt → accepted_of (shown (place_of first).item) (inserted_of q.height tag first)
        ≡ worked_of m q first second
    unfolding worked_of
    all_passed e =
        ap (λ (t : List ℕ). accepted_of (shown (place_of first).item) (inserted_of q.height t first)) et
        ∙ answered-done _ _ (inserted_of q.height (tag_for q.new) first) m (sym whole ∙ e)

-- THE WHOLE
module _ (m : Metadata) (q : Proposal) (first second : List ℕ) {x : Bool}
    (ex : x ≡ long_of q.position m.count q.new.readings q.left.readings q.right.readings) where
  pub too_long : x ≡ true → refused_of m LongMessage ≡ filed_of m q first second
  unfolding filed_of
  too_long e = sym (rw (sym ex ∙ e))

  module _ (short : x ≡ false) {v : Verdict} (ev : v ≡ verdict_of (opening_rules m (insertion q))) where
    abbrev after_opening : List Rule
    after_opening =
        proof_rules First first q.position m
        ++ after_first m q.position q.new.time (tag_for q.new) q.left q.right first second

    pub opening-refused : {why : Refusal} → v ≡ Err why → refused_of m why ≡ filed_of m q first second
    unfolding filed_of
    opening-refused {why} e =
        sym (rw (sym ex ∙ short, verdict_first (opening_rules m (insertion q)) after_opening why (sym ev ∙ e)))

    pub opening-worked : v ≡ Ok tt → worked_of m q first second ≡ filed_of m q first second
    unfolding filed_of worked_of
    opening-worked e = sym (rw (sym ex ∙ short, verdict-append (opening_rules m (insertion q)) after_opening (sym ev ∙ e)))

-- what is not long
pub new_short : (p n : ℕ) (new left right : List ℕ) → long_of p n new left right ≡ false
    → (is_long new ≡ false) × (either p n (is_long left) (is_long right) ≡ false)
new_short p n new left right e = neither (is_long new) (either p n (is_long left) (is_long right)) e
