-- A JOINT PROOF IS WORTH ITS SPELLED-OUT PROOFS: a well-formed one is accepted exactly when the gateway accepts each of them for a Read,
-- and so demand 3 holds of each tag. What is hashed for one proof is among what is hashed for all.
-- Assumes nothing.
use Rattle.std.specs.Prelude.{Ok}
use Prim.Native.Nat.{ℕ, zero, suc, ◌+◌, ◌*◌, ◌≤◌, ◌<◌}
use native.Mathlib.Omega.{arith}
use native.Mathlib.Numerals.{add-one}
use mathlib.Core.Path.{◌≡◌, refl, sym, ap, subst, ◌∙◌}
use mathlib.Core.Logic.{◌⊎◌, inl, inr}
use mathlib.Core.Bool.{true, ◌&&◌}
use mathlib.Core.List.{List, [], ◌∷◌, ◌++◌, append_assoc, append-nil}
use lib.Dec.{leb}
use lib.ListN.{length, get_or, drop, length-append}
use borrow.Author.Tests.{leb-true, ltb-false, le-ltb, not-false}
use Rattle.octets.specs.Runs.{patch, part}
use Rattle.octets.proofs.PartLaws.{part_middle}
use Rattle.refusals.specs.declared.Which.{Which}
use Rattle.refusals.specs.declared.Which.TheVariants.{First, Place}
use Rattle.refusals.specs.Order.{verdict_of, settled}
use Rattle.refusals.proofs.OrderLaws.{done-none, none-done, verdict-append, append-done}
use Rattle.skiplist.specs.Blocks.{zeros, shown, tag_at}
use Rattle.skiplist.proofs.Cases.{order, both}
use Rattle.skiplist.proofs.ClashLaws.{Within, within_left, within-right, clash-within}
use Rattle.commands.specs.declared.Metadata.{Metadata}
use Rattle.commands.specs.declared.Operation.TheVariants.{Read}
use Rattle.commands.proofs.RangeLaws.{range_admitted}
use Rattle.proofbytes.specs.Reading.{place_of}
use Rattle.proofbytes.proofs.WrittenBack.{formed_writable}
use Rattle.proofbytes.proofs.ReadBack.{shown-length}
use Rattle.jointbytes.specs.Positions.{is_set, within}
use Rattle.jointbytes.specs.Form.{joint_fits}
use Rattle.gateway.specs.Checking.{proof_rules}
use Rattle.gateway.specs.Gateway as single
use Rattle.gateway.specs.Gateway.{gateway_of}
use Rattle.gateway.specs.Hashing.{one_messages, gateway_messages}
use Rattle.gateway.proofs.Demands.{rules_found, demand3}
use Rattle.jointgateway.specs.Joint.{proof_at, opening_rules, place_rules, tags_of, no_tags, joint_of}
use Rattle.jointgateway.specs.Demand.{read_at, EveryRead, AcceptedExactly, messages_from, joint_messages, JointDemand3}
use Rattle.jointgateway.specs.Demand.{MetadataStays}

-- which proof it is does not matter
any_which : (v w : Which) (s : List ℕ) (p : ℕ) (m : Metadata) → verdict_of (proof_rules v s p m) ≡ Ok tt
    → verdict_of (proof_rules w s p m) ≡ Ok tt
any_which v w s p m e = none-done (proof_rules w s p m) (done-none (proof_rules v s p m) e)

-- THE OPENING
record Opened (m : Metadata) (ps s : List ℕ) : Type 0 where
  small : m.count ≤ 4096
  set : is_set ps ≡ true
  inside : within m.count ps ≡ true
  form : joint_fits (length ps) s ≡ true

opened : (m : Metadata) (ps s : List ℕ) → verdict_of (opening_rules m ps s) ≡ Ok tt → Opened m ps s
opened m ps s e =
    let n = done-none (opening_rules m ps s) e in
    record {
      small = ltb-false 4096 m.count n.0;
      set = not-false (is_set ps) n.1.0;
      inside = not-false (within m.count ps) n.1.1.0;
      form = not-false (joint_fits (length ps) s) n.1.1.1.0;
    }

pub within_head : (n p : ℕ) (ps : List ℕ) → within n (p ∷ ps) ≡ true → (1 ≤ p) × (p ≤ n) × (within n ps ≡ true)
unfolding within
within_head n p ps e =
    let a = both (leb 1 p && leb p n) (within n ps) e in
    let b = both (leb 1 p) (leb p n) a.0 in
    (leb-true 1 p b.0, leb-true p n b.1, a.1)

-- ONE READ, of a position in range
module _ (m : Metadata) (p : ℕ) (s : List ℕ) (small : m.count ≤ 4096) (low : 1 ≤ p) (high : p ≤ m.count) where
  read_opens : verdict_of (single.opening_rules m (read_at p)) ≡ Ok tt
  read_opens = rw (le-ltb 4096 m.count small) (range_admitted Read p 0 zeros m.count (low, high))

  read-verdict : (gateway_of m (read_at p) s []).verdict ≡ verdict_of (proof_rules First s p m)
  unfolding gateway_of
  read-verdict = verdict-append (single.opening_rules m (read_at p)) (proof_rules First s p m) read_opens

  read_messages : gateway_messages m (read_at p) s [] ≡ one_messages s p m
  read_messages = rw read_opens (append-nil (one_messages s p m))

pub read-tag : (m : Metadata) (p : ℕ) (s : List ℕ) → (gateway_of m (read_at p) s []).verdict ≡ Ok tt
    → (gateway_of m (read_at p) s []).tag ≡ shown (place_of s).item
unfolding gateway_of
read-tag m p s e = rw e

-- ALL PROOFS
module _ (m : Metadata) (s : List ℕ) (small : m.count ≤ 4096) where
  each_read : (i : ℕ) (ps : List ℕ) → within m.count ps ≡ true → verdict_of (place_rules s m i ps) ≡ Ok tt → EveryRead m s i ps
  unfolding place_rules
  each_read i [] k e = tt
  each_read i (p ∷ ps) k e =
      let w = within_head m.count p ps k in
      let d = append-done (proof_rules (Place (suc i)) (proof_at s i) p m) (place_rules s m (suc i) ps) e in (
        read-verdict m p (proof_at s i) small w.0 w.1 ∙ any_which (Place (suc i)) First (proof_at s i) p m d.0,
        each_read (suc i) ps w.2 d.1,
      )

  read_each : (i : ℕ) (ps : List ℕ) → within m.count ps ≡ true → EveryRead m s i ps → verdict_of (place_rules s m i ps) ≡ Ok tt
  unfolding place_rules
  read_each i [] k e = refl
  read_each i (p ∷ ps) k e =
      let w = within_head m.count p ps k in
      verdict-append (proof_rules (Place (suc i)) (proof_at s i) p m) (place_rules s m (suc i) ps)
      (any_which First (Place (suc i)) (proof_at s i) p m (sym (read-verdict m p (proof_at s i) small w.0 w.1) ∙ e.0))
      ∙ read_each (suc i) ps w.2 e.1

pub accepted_exactly : AcceptedExactly
unfolding joint_of
accepted_exactly m ps s e =
    let o = opened m ps s e in
    let a : verdict_of (opening_rules m ps s ++ place_rules s m 0 ps) ≡ verdict_of (place_rules s m 0 ps) =
    verdict-append (opening_rules m ps s) (place_rules s m 0 ps) e in (
      λ d. each_read m s o.small 0 ps o.inside (sym a ∙ d),
      λ d. a ∙ read_each m s o.small 0 ps o.inside d,
    )

-- WHAT A PROOF AMONG OTHERS SAYS, where all passed: the j-th of the positions
module _ (m : Metadata) (s : List ℕ) where
  read_among : (ps : List ℕ) (i j : ℕ) → EveryRead m s i ps → j < length ps
      → (gateway_of m (read_at (get_or ps j 0)) (proof_at s (i + j)) []).verdict ≡ Ok tt
  read_among [] i j e l = absurd (omega arith)
  read_among (p ∷ ps) i zero e l =
      let k : i ≡ i + 0 = omega arith in
      subst (λ x. (gateway_of m (read_at p) (proof_at s x) []).verdict ≡ Ok tt) k e.0
  read_among (p ∷ ps) i (suc j) e l =
      let k : suc i + j ≡ i + suc j = omega (arith, add-one i, add-one j) in
      subst (λ x. (gateway_of m (read_at (get_or ps j 0)) (proof_at s x) []).verdict ≡ Ok tt) k
      (read_among ps (suc i) j e.1 (omega (arith, add-one j, add-one (length ps))))

  -- its messages are among those of all
  messages_among : (ps : List ℕ) (i j : ℕ) → verdict_of (place_rules s m i ps) ≡ Ok tt → j < length ps
      → Within (one_messages (proof_at s (i + j)) (get_or ps j 0) m) (messages_from s m i ps)
  unfolding place_rules messages_from
  messages_among [] i j e l = absurd (omega arith)
  messages_among (p ∷ ps) i zero e l =
      let k : i ≡ i + 0 = omega arith in
      subst (λ x. Within (one_messages (proof_at s x) p m) (messages_from s m i (p ∷ ps))) k
      (within_left (one_messages (proof_at s i) p m) _ (messages_from s m i (p ∷ ps)) (λ x y. y))
  messages_among (p ∷ ps) i (suc j) e l =
      let k : suc i + j ≡ i + suc j = omega (arith, add-one i, add-one j) in
      let d = append-done (proof_rules (Place (suc i)) (proof_at s i) p m) (place_rules s m (suc i) ps) e in
      let a : messages_from s m i (p ∷ ps) ≡ one_messages (proof_at s i) p m ++ messages_from s m (suc i) ps =
      ap (λ v. one_messages (proof_at s i) p m ++ settled v (messages_from s m (suc i) ps) []) d.0 in
      let all = messages_from s m i (p ∷ ps) in
      let w : Within (messages_from s m (suc i) ps) all =
      within-right (one_messages (proof_at s i) p m) (messages_from s m (suc i) ps) all
      (subst (λ x. Within x all) a (λ x y. y)) in
      let here : Within (one_messages (proof_at s (suc i + j)) (get_or ps j 0) m) (messages_from s m (suc i) ps) =
      messages_among ps (suc i) j d.1 (omega (arith, add-one j, add-one (length ps))) in
      subst (λ x. Within (one_messages (proof_at s x) (get_or ps j 0) m) all) k (λ x y. w x (here x y))

-- the positions by their number
within_at : (n : ℕ) (ps : List ℕ) (j : ℕ) → within n ps ≡ true → j < length ps → (1 ≤ get_or ps j 0) × (get_or ps j 0 ≤ n)
within_at n [] j k l = absurd (omega arith)
within_at n (p ∷ ps) zero k l = let w = within_head n p ps k in (w.0, w.1)
within_at n (p ∷ ps) (suc j) k l =
    within_at n ps j (within_head n p ps k).2 (omega (arith, add-one j, add-one (length ps)))

-- THE TAGS, each of 32 bytes
module _ (s : List ℕ) where
  abbrev pub tag_of : ℕ → List ℕ
  tag_of i = shown (place_of (proof_at s i)).item

  length-tags : (n : ℕ) → ((i : ℕ) → i < n → length (tag_of i) ≡ 32) → length (tags_of s n) ≡ 32 * n
  unfolding tags_of
  length-tags zero k = omega arith
  length-tags (suc n) k =
      let before = length-tags n (λ i l. k i (omega (arith, l, add-one n))) in
      length-append (tags_of s n) (tag_of n) ∙ omega (arith, before, k n (omega (arith, add-one n)), add-one n)

  tag-part : (n i : ℕ) (rest : List ℕ) → ((j : ℕ) → j < n → length (tag_of j) ≡ 32) → i < n
      → part (tags_of s n ++ rest) (32 * i) 32 ≡ tag_of i
  unfolding tags_of
  tag-part zero i rest k l = absurd (omega arith)
  tag-part (suc n) i rest k l =
      ap (λ x. part x (32 * i) 32) (append_assoc (tags_of s n) (tag_of n) rest)
      ∙ go (order i n) (λ h. tag-part n i (tag_of n ++ rest) fewer h)
    where
      fewer : (j : ℕ) → j < n → length (tag_of j) ≡ 32
      fewer j h = k j (omega (arith, h, add-one n))

      go : (i < n) ⊎ (n ≤ i) → (i < n → part (tags_of s n ++ (tag_of n ++ rest)) (32 * i) 32 ≡ tag_of i)
          → part (tags_of s n ++ (tag_of n ++ rest)) (32 * i) 32 ≡ tag_of i
      go (inl h) before = before h
      go (inr h) before =
          let e : n ≡ i = omega (arith, h, l, add-one n) in
          subst (λ x. part (tags_of s n ++ (tag_of n ++ rest)) (32 * x) 32 ≡ tag_of x) e
          (part_middle (tags_of s n) (tag_of n) rest (32 * n) 32 (length-tags n fewer) (k n (omega (arith, add-one n))))

-- a proof that passed has a tag of 32 bytes at its stop
tag_length : (m : Metadata) (p : ℕ) (s : List ℕ) → verdict_of (proof_rules First s p m) ≡ Ok tt
    → length (shown (place_of s).item) ≡ 32
tag_length m p s e =
    shown-length (place_of s).item (formed_writable s (rules_found First s p m e).formed).stop

-- the tags answered are those at the stops
done-tags : (m : Metadata) (ps s : List ℕ) → (joint_of m ps s).verdict ≡ Ok tt
    → (joint_of m ps s).tags ≡ tags_of s (length ps) ++ drop (0 + length (tags_of s (length ps))) no_tags
unfolding joint_of patch
done-tags m ps s e = rw e

-- AN ACCEPTED JOINT PROOF, and the i-th of its proofs
done_parts : (m : Metadata) (ps s : List ℕ) → (joint_of m ps s).verdict ≡ Ok tt
    → (verdict_of (opening_rules m ps s) ≡ Ok tt) × (verdict_of (place_rules s m 0 ps) ≡ Ok tt)
unfolding joint_of
done_parts m ps s done = append-done (opening_rules m ps s) (place_rules s m 0 ps) done

module _ (m : Metadata) (ps s : List ℕ) (done : (joint_of m ps s).verdict ≡ Ok tt) where
  opening-done : verdict_of (opening_rules m ps s) ≡ Ok tt
  opening-done = (done_parts m ps s done).0

  start : Opened m ps s
  start = opened m ps s opening-done

  module _ (i : ℕ) (h : i < length ps) where
    abbrev p : ℕ
    p = get_or ps i 0

    range : (1 ≤ p) × (p ≤ m.count)
    range = within_at m.count ps i start.inside h

    at_zero : 0 + i ≡ i
    at_zero = omega arith

    accepted : (gateway_of m (read_at p) (proof_at s i) []).verdict ≡ Ok tt
    accepted =
        subst (λ x. (gateway_of m (read_at p) (proof_at s x) []).verdict ≡ Ok tt) at_zero
        (read_among m s ps 0 i ((accepted_exactly m ps s opening-done).0 done) h)

    tag_size : length (tag_of s i) ≡ 32
    tag_size =
        tag_length m p (proof_at s i) (sym (read-verdict m p (proof_at s i) start.small range.0 range.1) ∙ accepted)

    among : Within (gateway_messages m (read_at p) (proof_at s i) []) (joint_messages m ps s)
    among =
        let a : messages_from s m 0 ps ≡ joint_messages m ps s =
        sym (ap (λ v. settled v (messages_from s m 0 ps) []) opening-done) in
        let b : one_messages (proof_at s (0 + i)) p m ≡ gateway_messages m (read_at p) (proof_at s i) [] =
        ap (λ x. one_messages (proof_at s x) p m) at_zero
        ∙ sym (read_messages m p (proof_at s i) start.small range.0 range.1) in
        subst (λ M. Within M (joint_messages m ps s)) b
        (subst (Within (one_messages (proof_at s (0 + i)) p m)) a (messages_among m s ps 0 i (done_parts m ps s done).1 h))

  tag_is : (i : ℕ) (h : i < length ps)
      → part (joint_of m ps s).tags (32 * i) 32 ≡ (gateway_of m (read_at (get_or ps i 0)) (proof_at s i) []).tag
  tag_is i h =
      ap (λ x. part x (32 * i) 32) (done-tags m ps s done)
      ∙ tag-part s (length ps) i (drop (0 + length (tags_of s (length ps))) no_tags) tag_size h
      ∙ sym (read-tag m (get_or ps i 0) (proof_at s i) (accepted i h))

-- DEMAND 3
pub joint_demand_3 : JointDemand3
joint_demand_3 m ps s bs l held done i h =
    clash-within (joint_messages m ps s) (among m ps s done i h)
    (tagged (demand3 m (read_at (get_or ps i 0)) (proof_at s i) [] bs l held (accepted m ps s done i h)))
  where
    tagged : {C A : Type 0} → C ⊎ (A × ((gateway_of m (read_at (get_or ps i 0)) (proof_at s i) []).tag ≡ tag_at (get_or ps i 0) bs))
        → C ⊎ (part (joint_of m ps s).tags (32 * i) 32 ≡ tag_at (get_or ps i 0) bs)
    tagged (inl c) = inl c
    tagged (inr r) = inr (tag_is m ps s done i h ∙ r.1)

pub metadata_stays : MetadataStays
unfolding joint_of
metadata_stays m ps s = refl
