-- DEMAND 3 OVER BYTES, and that 10 comes only with a clash: what is accepted over bytes meets the model's premises,
-- so the model's theorem applies.
-- Assumes nothing.
use Rattle.std.specs.Prelude.{Ok, Err}
use Prim.Native.Nat.{ℕ, ◌<◌}
use mathlib.Core.Path.{◌≡◌, refl, sym, ap, subst, ◌∙◌}
use mathlib.Core.Logic.{◌⊎◌, inl, inr}
use mathlib.Core.Bool.{true, false, not}
use mathlib.Core.Option.{none, some}
use mathlib.Core.List.{List, [], ◌∷◌, ◌++◌, append-nil}
use native.Mathlib.Omega.{arith}
use lib.ListN.{length}
use borrow.Author.Tests.{not-true, not-false}
use Rattle.refusals.specs.declared.Which.{Which}
use Rattle.refusals.specs.declared.Which.TheVariants.{First, Second}
use Rattle.refusals.specs.declared.Refusal.{Refusal}
use Rattle.refusals.specs.declared.Refusal.TheVariants.{NotNeighbours}
use Rattle.refusals.specs.Numbers.{number_of}
use Rattle.refusals.specs.Order.{◌when◌, verdict_of}
use Rattle.refusals.proofs.OrderLaws.{done-refused, cases, due_false, due_true, append-done, Lacks, lacks_never, behind}
use Rattle.sha256.specs.Hash.{sha256}
use Rattle.sha256.proofs.Hashes.{sha256-length}
use Rattle.skiplist.specs.Entry.{Place}
use Rattle.skiplist.specs.Label.{Side}
use Rattle.skiplist.specs.Equal.{side-discrete}
use Rattle.skiplist.specs.Meeting.{meets, remains, deleted}
use Rattle.skiplist.specs.Messages.{tree_messages, proof_messages}
use Rattle.skiplist.specs.Clash.{Clash}
use Rattle.skiplist.specs.Check.{Accepted}
use Rattle.skiplist.specs.Limits.{most_height}
use Rattle.skiplist.specs.Blocks.{Block, Sent, WithinLimits, root, metadata_of, tag_at}
use Rattle.skiplist.specs.Commands as model
use Rattle.skiplist.specs.Commands.{InRange, edited, spot, first_at, reported, predicted, check_messages}
use Rattle.skiplist.proofs.WayLaws.{metadata_count}
use Rattle.skiplist.proofs.Trust.{trusted}
use Rattle.commands.specs.declared.Metadata.{Metadata}
use Rattle.commands.specs.declared.Operation.{Operation}
use Rattle.commands.specs.declared.Operation.TheVariants.{Read, Replace, Insert, Delete}
use Rattle.commands.specs.declared.Command.{Command}
use Rattle.commands.specs.Meaning.{held_side, order_of, meaning}
use Rattle.commands.proofs.RangeLaws.{admitted_range}
use Rattle.proofbytes.specs.Reading.{place_of}
use Rattle.std.specs.Prelude.{Ok}
use Rattle.gateway.specs.Checking.{𝓢, proof_rules}
use Rattle.gateway.specs.Working.{finding_of, blamed}
use Rattle.gateway.specs.Gateway.{later_rules, opening_rules, gateway_rules, new_metadata, gateway_of}
use Rattle.gateway.specs.Hashing.{one_messages, second_messages, gateway_messages}
use Rattle.gateway.specs.Demand.{SomeClash, Demand3, NeighboursMeet}
use Rattle.gateway.proofs.Screens.{Found, finding-fine}
use Rattle.gateway.proofs.Answers.{rules_refused, rules_done, opening_count, opening_admitted}
use Rattle.gateway.proofs.Accepts.{found-accepted, accepted-fine}
use Rattle.skiplist.proofs.Cases.{never}

-- a proof's rules that are done
pub rules_found : (w : Which) (s : List ℕ) (p : ℕ) (m : Metadata) → verdict_of (proof_rules w s p m) ≡ Ok tt → Found s p m
rules_found w s p m e = finding-fine s p m (go (cases (blamed w (finding_of s p m))))
  where
    go : (blamed w (finding_of s p m) ≡ Ok tt) ⊎ ((why : Refusal) × (blamed w (finding_of s p m) ≡ Err why))
        → finding_of s p m ≡ Ok tt
    go (inl d) = (rules_done w s p m [] d).1
    go (inr r) = done-refused (sym e ∙ rules_refused w s p m [] r.1)

-- what is hashed for a proof that passed
found_messages : (s : List ℕ) (p : ℕ) (m : Metadata) → Found s p m → one_messages s p m
    ≡ proof_messages sha256 (place_of s)
found_messages s p m f = rw (f.formed, f.proved, f.counted)

pub found_rules : (w : Which) (s : List ℕ) (p : ℕ) (m : Metadata) → finding_of s p m ≡ Ok tt
    → verdict_of (proof_rules w s p m) ≡ Ok tt
found_rules w s p m e = (rules_done w s p m [] (ap (blamed w) e)).0

-- THE PROOFS OF A COMMAND, all passed up to the meeting
pub record Passing (m : Metadata) (k : Command) (a b : List ℕ) : Type 0 where
  pub opening : verdict_of (opening_rules m k) ≡ Ok tt
  pub first : Found a (first_at (meaning k)) m
  pub second : k.operation ≡ Delete → Found b k.position m

module _ (m : Metadata) (k : Command) (a b : List ℕ) (x : Passing m k a b) where
  pub passing_range : InRange (meaning k) m.count
  passing_range = admitted_range k m.count (opening_count m k x.opening) (opening_admitted m k x.opening)

  -- of a row whose metadata is held
  pub in_row : (bs : List Block) → held_side m ≡ metadata_of sha256 bs → InRange (meaning k) (length bs)
  in_row bs held = subst (InRange (meaning k)) (ap (λ (s : Side). s.rank) held ∙ metadata_count sha256 bs) passing_range

  pub passing_checks : model.Checks sha256 (meaning k) (held_side m) (place_of a) (place_of b)
  passing_checks = go k.operation refl (found-accepted a (first_at (meaning k)) m x.first)
    where
      go : (o : Operation) → k.operation ≡ o
          → Accepted sha256 Sent most_height (first_at (order_of o k.position k.height k.tag)) (held_side m)
          (place_of a)
          → model.Checks sha256 (order_of o k.position k.height k.tag) (held_side m) (place_of a) (place_of b)
      go Read e f = f
      go Replace e f = f
      go Insert e f = f
      go Delete e f = (f, found-accepted b k.position m (x.second e))

  pub passing_messages : gateway_messages m k a b ≡ check_messages sha256 (meaning k) (place_of a) (place_of b)
  passing_messages =
      rw (x.opening, found_messages a (first_at (meaning k)) m x.first, first_done) (go k.operation refl)
    where
      first_done : verdict_of (proof_rules First a (first_at (meaning k)) m) ≡ Ok tt
      first_done = found_rules First a (first_at (meaning k)) m
          (accepted-fine a (first_at (meaning k)) m x.first.formed
          (found-accepted a (first_at (meaning k)) m x.first))

      go : (o : Operation) → k.operation ≡ o
          → proof_messages sha256 (place_of a) ++ second_messages o (one_messages b k.position m)
          ≡ check_messages sha256 (order_of o k.position k.height k.tag) (place_of a) (place_of b)
      go Read e = append-nil (proof_messages sha256 (place_of a))
      go Replace e = append-nil (proof_messages sha256 (place_of a))
      go Insert e = append-nil (proof_messages sha256 (place_of a))
      go Delete e = ap (λ y. proof_messages sha256 (place_of a) ++ y) (found_messages b k.position m (x.second e))

-- what the model says of proofs against s, for the row bs
abbrev pub Says : Side → Command → List ℕ → List ℕ → List Block → Type 0
Says s k a b bs =
    (predicted sha256 (meaning k) s (place_of a) (place_of b) ≡ some (metadata_of sha256 (edited (meaning k) bs)))
    × (reported (meaning k) (place_of a) (place_of b) ≡ tag_at (spot (meaning k)) bs)

-- a row within the limits whose metadata is held
module _ (m : Metadata) (k : Command) (a b : List ℕ) (bs : List Block) (l : WithinLimits bs)
    (held : held_side m ≡ metadata_of sha256 bs) (x : Passing m k a b) where
  pub model_says : SomeClash m k a b bs ⊎ Says (held_side m) k a b bs
  model_says =
      subst (λ M. Clash sha256 M (tree_messages sha256 (root bs)) ⊎ Says (held_side m) k a b bs)
      (sym (passing_messages m k a b x))
      (subst (λ s. Clash sha256 (check_messages sha256 (meaning k) (place_of a) (place_of b))
      (tree_messages sha256 (root bs))
      ⊎ Says s k a b bs) (sym held)
      (trusted sha256 sha256-length (meaning k) bs (place_of a) (place_of b) l
      (in_row m k a b x bs held)
      (subst (λ s. model.Checks sha256 (meaning k) s (place_of a) (place_of b)) held (passing_checks m k a b x))))

-- the new metadata is what the model predicts
meets_gives : (z w : Place Side) → meets 𝓢 side-discrete z w ≡ true → deleted 𝓢 side-discrete z w
    ≡ some (remains 𝓢 side-discrete z w)
meets_gives z w e = rw e

pub new-predicted : (o : Operation) (p h : ℕ) (t : List ℕ) (m : Metadata) (a b : List ℕ)
    → (o ≡ Delete → meets 𝓢 side-discrete (place_of a) (place_of b) ≡ true)
    → predicted sha256 (order_of o p h t) (held_side m) (place_of a) (place_of b)
    ≡ some (held_side (new_metadata o h t m a b))
new-predicted Read p h t m a b q = refl
new-predicted Replace p h t m a b q = refl
new-predicted Insert p h t m a b q = refl
new-predicted Delete p h t m a b q = meets_gives (place_of a) (place_of b) (q refl)

-- DEMAND 3
second-done : (o : Operation) (m : Metadata) (p : ℕ) (t a b : List ℕ) → verdict_of (later_rules o m p t a b) ≡ Ok tt
    → (o ≡ Delete → Found b p m × (meets 𝓢 side-discrete (place_of a) (place_of b) ≡ true))
second-done Read m p t a b e q = never cc
second-done Replace m p t a b e q = never cc
second-done Insert m p t a b e q = never cc
second-done Delete m p t a b e q =
    let d = append-done (proof_rules Second b p m) ((NotNeighbours when not
    (meets 𝓢 side-discrete (place_of a) (place_of b))) ∷ []) e in (
      rules_found Second b p m d.0,
      not-false _ (due_false (not (meets 𝓢 side-discrete (place_of a) (place_of b)))
          NotNeighbours d.1),
    )

module _ (m : Metadata) (k : Command) (a b : List ℕ) (done : verdict_of (gateway_rules m k a b) ≡ Ok tt) where
  opened : (verdict_of (opening_rules m k) ≡ Ok tt)
      × (verdict_of (proof_rules First a (first_at (meaning k)) m ++ later_rules k.operation m k.position k.tag a b)
      ≡ Ok tt)
  opened = append-done (opening_rules m k) (proof_rules First a (first_at (meaning k)) m ++ later_rules k.operation m
      k.position k.tag a b) done

  pub proved : (verdict_of (proof_rules First a (first_at (meaning k)) m) ≡ Ok tt)
      × (verdict_of (later_rules k.operation m k.position k.tag a b) ≡ Ok tt)
  proved = append-done (proof_rules First a (first_at (meaning k)) m) (later_rules k.operation m k.position k.tag a b)
      opened.1

  pub done_passing : Passing m k a b
  done_passing = record {
    opening = opened.0;
    first = rules_found First a (first_at (meaning k)) m proved.0;
    second = λ q. (second-done k.operation m k.position k.tag a b proved.1 q).0;
  }

  pub done_meets : k.operation ≡ Delete → meets 𝓢 side-discrete (place_of a) (place_of b) ≡ true
  done_meets q = (second-done k.operation m k.position k.tag a b proved.1 q).1

pub some_inj : {x y : Side} → some x ≡ some y → x ≡ y
some_inj e = cc

pub demand3 : Demand3
unfolding gateway_of
demand3 m k a b bs l held done = go (model_says m k a b bs l held (done_passing m k a b done))
  where
    go : SomeClash m k a b bs ⊎ Says (held_side m) k a b bs → SomeClash m k a b bs
        ⊎ ((held_side (gateway_of m k a b).metadata ≡ metadata_of sha256 (edited (meaning k) bs))
        × ((gateway_of m k a b).tag ≡ tag_at (spot (meaning k)) bs))
    go (inl c) = inl c
    go (inr r) = inr (
      rw done (some_inj (sym (new-predicted k.operation k.position k.height k.tag m a b
          (done_meets m k a b done)) ∙ r.0)),
      rw done r.1,
    )

-- A REFUSAL BEHIND THE FIRST PROOF: 10 or 14
opening-lacks : (n : ℕ) (m : Metadata) (k : Command) → 9 < n → (12 ≡ n → ⊥) → Lacks n (opening_rules m k)
opening-lacks n m k h e =
    (e, (λ q. omega (arith, q, h), (λ q. omega (arith, q, h), (λ q. omega (arith, q, h), tt))))

proof-lacks : (n : ℕ) (w : Which) (s : List ℕ) (p : ℕ) (m : Metadata) → 9 < n → Lacks n (proof_rules w s p m)
proof-lacks n w s p m h = (λ q. omega (arith, q, h), (λ q. omega (arith, q, h), (λ q. omega (arith, q, h), tt)))

pub record Later (r : Refusal) (m : Metadata) (k : Command) (a b : List ℕ) : Type 0 where
  pub opening : verdict_of (opening_rules m k) ≡ Ok tt
  pub first : Found a (first_at (meaning k)) m
  pub rest : verdict_of (later_rules k.operation m k.position k.tag a b) ≡ Err r

pub later : (r : Refusal) (m : Metadata) (k : Command) (a b : List ℕ) → 9 < number_of r → (12 ≡ number_of r → ⊥)
    → verdict_of (gateway_rules m k a b) ≡ Err r → Later r m k a b
later r m k a b h e refused =
    let last = later_rules k.operation m k.position k.tag a b in
    let x = behind r (opening_rules m k) (proof_rules First a (first_at (meaning k)) m ++ last)
    (opening-lacks (number_of r) m k h e) refused in
    let y = behind r (proof_rules First a (first_at (meaning k)) m) last
    (proof-lacks (number_of r) First a (first_at (meaning k)) m h) x.1 in
    record { opening = x.0; first = rules_found First a (first_at (meaning k)) m y.0; rest = y.1 }

-- 10 ONLY WITH A CLASH
record Apart (o : Operation) (m : Metadata) (p : ℕ) (a b : List ℕ) : Type 0 where
  delete : o ≡ Delete
  found : Found b p m
  unmet : meets 𝓢 side-discrete (place_of a) (place_of b) ≡ false

second_apart : (o : Operation) (m : Metadata) (p : ℕ) (t a b : List ℕ) → verdict_of (later_rules o m p t a b)
    ≡ Err NotNeighbours → Apart o m p a b
second_apart Read m p t a b e = done-refused e
second_apart Replace m p t a b e = done-refused e
second_apart Insert m p t a b e =
    absurd (lacks_never NotNeighbours (later_rules Insert m p t a b) (λ q. omega (arith, q), tt) e)
second_apart Delete m p t a b e =
    let d = behind NotNeighbours (proof_rules Second b p m)
    ((NotNeighbours when not (meets 𝓢 side-discrete (place_of a) (place_of b))) ∷ [])
    (proof-lacks 10 Second b p m (omega arith)) e in
    record {
      delete = refl;
      found = rules_found Second b p m d.0;
      unmet = not-true _ (due_true (not (meets 𝓢 side-discrete (place_of a) (place_of b))) NotNeighbours NotNeighbours
          d.1);
    }

pub none-some : {P : Type 0} {s : Side} → none ≡ some s → P
none-some e = never cc

pub neighbours_meet : NeighboursMeet
unfolding gateway_of
neighbours_meet m k a b bs l held refused = go (model_says m k a b bs l held passing)
  where
    x : Later NotNeighbours m k a b
    x = later NotNeighbours m k a b (omega arith) (λ q. omega (arith, q)) refused

    apart : Apart k.operation m k.position a b
    apart = second_apart k.operation m k.position k.tag a b x.rest

    passing : Passing m k a b
    passing = record { opening = x.opening; first = x.first; second = λ q. apart.found }

    go : SomeClash m k a b bs ⊎ Says (held_side m) k a b bs → SomeClash m k a b bs
    go (inl c) = c
    go (inr r) =
        let gone : predicted sha256 (meaning k) (held_side m) (place_of a) (place_of b)
        ≡ none = rw (apart.delete, apart.unmet) in
        none-some (sym gone ∙ r.0)
