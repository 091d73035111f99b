-- ASK 4 OVER BYTES: what is refused with 14 comes again and what is accepted does not, or there is a clash; and on the honest proof 14
-- comes exactly there.
-- Assumes nothing.
use Rattle.std.specs.Prelude.{Ok, Err}
use Prim.Native.Nat.{ℕ}
use mathlib.Core.Path.{◌≡◌, refl, sym, ◌∙◌}
use mathlib.Core.Logic.{◌⊎◌, inl, inr}
use mathlib.Core.Bool.{true, false, false≢true}
use mathlib.Core.List.{List}
use native.Mathlib.Omega.{arith}
use Rattle.refusals.specs.declared.Refusal.TheVariants.{Repeated}
use Rattle.refusals.specs.Order.{verdict_of}
use Rattle.refusals.proofs.OrderLaws.{done-refused, due_false, due_true, lacks_never}
use Rattle.sha256.specs.Hash.{sha256}
use Rattle.skiplist.specs.Blocks.{Block, metadata_of, shown, tag_at}
use Rattle.skiplist.specs.Commands.{spot, repeats_at, reported}
use Rattle.commands.specs.declared.Metadata.{Metadata}
use Rattle.commands.specs.declared.Operation.{Operation}
use Rattle.commands.specs.declared.Operation.TheVariants.{Read, Replace, Insert, Delete}
use Rattle.commands.specs.declared.Command.{Command}
use Rattle.commands.specs.Meaning.{held_side, meaning}
use Rattle.commands.specs.Again.{Again}
use Rattle.commands.proofs.RangeLaws.{again-repeats, repeats-again}
use Rattle.proofbytes.specs.Reading.{place_of}
use Rattle.gateway.specs.Gateway.{later_rules, gateway_rules, gateway_of}
use Rattle.gateway.specs.Demand.{SomeClash, RepeatsStand, AcceptedAnew, HonestRepeats}
use Rattle.gateway.proofs.Demands.{Passing, in_row, Says, model_says, proved, done_passing, Later, later}
use Rattle.gateway.proofs.Honest.{honest_passes, honest_tag}
use Rattle.skiplist.proofs.Cases.{never}

-- 14 ONLY FOR WHAT COMES AGAIN, or with a clash
record Repeating (o : Operation) (p : ℕ) (t a : List ℕ) : Type 0 where
  insert : o ≡ Insert
  same : repeats_at p t (shown (place_of a).item) ≡ true

later_repeats : (o : Operation) (m : Metadata) (p : ℕ) (t a b : List ℕ)
    → verdict_of (later_rules o m p t a b) ≡ Err Repeated → Repeating o p t a
later_repeats Read m p t a b e = done-refused e
later_repeats Replace m p t a b e = done-refused e
later_repeats Insert m p t a b e =
    record { insert = refl; same = due_true (repeats_at p t (shown (place_of a).item)) Repeated Repeated e }
later_repeats Delete m p t a b e =
    absurd (lacks_never Repeated (later_rules Delete m p t a b)
    (λ q. omega (arith, q), (λ q. omega (arith, q), (λ q. omega (arith, q), (λ q. omega (arith, q), tt)))) e)

module _ (m : Metadata) (k : Command) (a b : List ℕ) (refused : verdict_of (gateway_rules m k a b) ≡ Err Repeated)
  where
    x : Later Repeated m k a b
    x = later Repeated m k a b (omega arith) (λ q. omega (arith, q)) refused

    repeating : Repeating k.operation k.position k.tag a
    repeating = later_repeats k.operation m k.position k.tag a b x.rest

    not_both : {P : Type 0} → k.operation ≡ Insert → k.operation ≡ Delete → P
    not_both e f = let g = sym e ∙ f in never cc

    repeating_passing : Passing m k a b
    repeating_passing = record {
      opening = x.opening;
      first = x.first;
      second = not_both repeating.insert;
    }

-- the place of a tag that is reported right
comes_again : (m : Metadata) (k : Command) (a b : List ℕ) (bs : List Block) → held_side m ≡ metadata_of sha256 bs
    → Passing m k a b → Repeating k.operation k.position k.tag a
    → reported (meaning k) (place_of a) (place_of b) ≡ tag_at (spot (meaning k)) bs → Again bs k
comes_again m k a b bs held x r tag =
    let there : shown (place_of a).item ≡ tag_at k.position bs = rw r.insert at tag in
    repeats-again bs k (in_row m k a b x bs held) (rw r.insert (rw there at r.same))

pub repeats_stand : RepeatsStand
unfolding gateway_of
repeats_stand m k a b bs l held refused = go (model_says m k a b bs l held (repeating_passing m k a b refused))
  where
    go : SomeClash m k a b bs ⊎ Says (held_side m) k a b bs → SomeClash m k a b bs ⊎ Again bs k
    go (inl c) = inl c
    go (inr r) = inr (comes_again m k a b bs held (repeating_passing m k a b refused) (repeating m k a b refused) r.1)

-- and what is accepted does not
later_anew : (o : Operation) (m : Metadata) (p : ℕ) (t a b : List ℕ) → verdict_of (later_rules o m p t a b) ≡ Ok tt
    → o ≡ Insert → repeats_at p t (shown (place_of a).item) ≡ false
later_anew Read m p t a b e q = never cc
later_anew Replace m p t a b e q = never cc
later_anew Delete m p t a b e q = never cc
later_anew Insert m p t a b e q = due_false (repeats_at p t (shown (place_of a).item)) Repeated e

pub accepted_anew : AcceptedAnew
unfolding gateway_of
accepted_anew m k a b bs l held done = go (model_says m k a b bs l held (done_passing m k a b done))
  where
    go : SomeClash m k a b bs ⊎ Says (held_side m) k a b bs → SomeClash m k a b bs ⊎ (Again bs k → ⊥)
    go (inl c) = inl c
    go (inr r) = inr (λ w.
        let there : shown (place_of a).item ≡ tag_at k.position bs = rw w.insert at r.1 in
        let no = later_anew k.operation m k.position k.tag a b (proved m k a b done).1 w.insert in
        let yes : repeats_at k.position k.tag (tag_at k.position bs) ≡ true = rw w.insert at
        (again-repeats bs k w).1 in
        absurd (false≢true (sym (rw there at no) ∙ yes)))

-- 14 EXACTLY FOR WHAT COMES AGAIN
pub honest_repeats : HonestRepeats
unfolding gateway_of
honest_repeats m k a b bs l held ea few = (only, given)
  where
    only : verdict_of (gateway_rules m k a b) ≡ Err Repeated → Again bs k
    only refused =
        let x = repeating_passing m k a b refused in
        let r = repeating m k a b refused in
        let range = in_row m k a b x bs held in
        comes_again m k a b bs held x r
        (rw r.insert (honest_tag k a bs l range ea few r.insert))

    given : Again bs k → verdict_of (gateway_rules m k a b) ≡ Err Repeated
    given w =
        let r = again-repeats bs k w in
        let there = honest_tag k a bs l r.0 ea few w.insert in
        honest_passes m k a b bs l r.0 held ea few ∙ rw (w.insert, there, rw w.insert at r.1)
