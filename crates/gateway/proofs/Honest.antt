-- DEMAND 2, the gateway's half: the honest proofs of a row within the limits, written as bytes, are accepted, and the
-- answer is the edited row's.
-- Assumes nothing.
use Rattle.std.specs.Prelude.{Ok}
use Prim.Native.Nat.{ℕ, ◌≤◌}
use mathlib.Core.Path.{◌≡◌, refl, sym, ap, ap₂, subst, ◌∙◌}
use mathlib.Core.Logic.{inl, inr}
use mathlib.Core.Bool.{Bool, true, false, cond, not}
use mathlib.Core.Option.{none, some}
use mathlib.Core.List.{List, [], ◌∷◌, ◌++◌, map}
use native.Mathlib.Omega.{arith}
use lib.ListN.{length, length-map}
use borrow.Author.Tests.{le-ltb}
use Rattle.refusals.specs.declared.Which.TheVariants.{First, Second}
use Rattle.refusals.specs.declared.Refusal.TheVariants.{NotNeighbours}
use Rattle.refusals.specs.Order.{◌when◌, verdict_of}
use Rattle.refusals.proofs.OrderLaws.{verdict-append}
use Rattle.sha256.specs.Hash.{sha256}
use Rattle.sha256.proofs.Hashes.{sha256-length}
use Rattle.skiplist.specs.Row.{Item}
use Rattle.skiplist.specs.Tree.{Tree, empty, leaf, node, rank}
use Rattle.skiplist.specs.Sides.{trees, side_of}
use Rattle.skiplist.specs.Entry.{Entry, down, right, pass, Place}
use Rattle.skiplist.specs.Recompute.{plug}
use Rattle.skiplist.specs.Label.{Side, labelled}
use Rattle.skiplist.specs.Equal.{side-discrete}
use Rattle.skiplist.specs.Meeting.{meets, remains, deleted}
use Rattle.skiplist.specs.Check.{Accepted}
use Rattle.skiplist.specs.Limits.{most_height}
use Rattle.skiplist.specs.Blocks.{Block, Kept, Sent, WithinLimits, head, row, way_to, metadata_of, shown, tag_at}
use Rattle.skiplist.specs.Commands.{InRange, edited, spot, repeats_at, first_at, reported, predicted}
use Rattle.skiplist.proofs.RankLaws.{side-weight}
use Rattle.skiplist.proofs.GoodTree.{NonEmpty, Good, tree-good, good-rank}
use Rattle.skiplist.proofs.SideLaws.{entry_of}
use Rattle.skiplist.proofs.Master.{sides_weigh}
use Rattle.skiplist.proofs.BlockLaws.{heavy, fit_row}
use Rattle.skiplist.proofs.WayLaws.{metadata_count, root-rank, way-whole, way-accepted}
use Rattle.skiplist.proofs.Predictions.{predicted-way, reported-way}
use Rattle.commands.specs.declared.Metadata.{Metadata}
use Rattle.commands.specs.declared.Operation.{Operation}
use Rattle.commands.specs.declared.Operation.TheVariants.{Read, Replace, Insert, Delete}
use Rattle.commands.specs.declared.Command.{Command}
use Rattle.commands.specs.Meaning.{held_side, metadata_of_side, order_of, meaning}
use Rattle.commands.proofs.RangeLaws.{range_admitted, spot_is, first_in_row, spot_in_row, not_again}
use Rattle.proofbytes.specs.Layout.{most_entries}
use Rattle.proofbytes.specs.Reading.{place_of}
use Rattle.proofbytes.specs.Form.{AllFit, BesideFits, Writable}
use Rattle.proofbytes.proofs.ReadBack.{written_formed, written_read}
use Rattle.std.specs.Prelude.{Ok}
use Rattle.gateway.specs.Checking.{𝓢, proof_rules}
use Rattle.gateway.specs.Working.{finding_of}
use Rattle.gateway.specs.Gateway.{later_rules, opening_rules, gateway_rules, new_metadata, gateway_of}
use Rattle.gateway.specs.Demand.{proof_for, HonestAccepted}
use Rattle.gateway.proofs.Accepts.{accepted-fine}
use Rattle.gateway.proofs.Demands.{new-predicted, some_inj, none-some, found_rules}
use Rattle.skiplist.proofs.Cases.{never}

-- HONEST PROOFS: the sides of a row's path are what bytes can carry
sent_any : (f : Bool) (c : Item) → Kept f c → Sent true c
sent_any true c k = inl k
sent_any false c k = inr k

label-length : (t : Tree) → NonEmpty t → length (side_of 𝓢 t).label ≡ 32
label-length empty n = absurd n
label-length (leaf c r) n = sha256-length _
label-length (node l a b) n = sha256-length _

weight_is : (t : Tree) → (side_of 𝓢 t).rank ≡ rank t
weight_is t = side-weight 𝓢 (sides_weigh sha256) t

side_fits_beside : (t : Tree) → Good Kept false t → rank t ≤ 4096 → BesideFits (side_of 𝓢 t)
side_fits_beside empty g h = inl (refl, refl)
side_fits_beside (leaf c r) g h =
    inr (
      omega (arith, weight_is (leaf c r), good-rank Kept heavy (leaf c r) g tt),
      omega
          (arith, weight_is (leaf c r)),
      sha256-length _,
    )
side_fits_beside (node l a b) g h =
    inr (
      omega (arith, weight_is (node l a b), good-rank Kept heavy (node l a b) g tt),
      omega
          (arith, weight_is (node l a b)),
      sha256-length _,
    )

record Carried (q : List (Entry Tree)) (c : Item) (r : Tree) : Type 0 where
  entries : AllFit (map (entry_of 𝓢) q)
  stop : Sent true c
  side : BesideFits (side_of 𝓢 r)

carried : (f : Bool) (q : List (Entry Tree)) (c : Item) (r : Tree) → Good Kept f (plug trees q (leaf c r))
    → rank (plug trees q (leaf c r)) ≤ 4096
    → Carried q c r
carried f [] c r g h = record { entries = tt; stop = sent_any f c g.0; side = side_fits_beside r g.1 (omega arith) }
carried f (down l s ∷ q) c r g h =
    let o = carried f q c r g.3 (omega arith) in
    record {
      entries = (
        (
          omega (arith, weight_is s, good-rank Kept heavy s g.4 g.2),
          omega (arith, weight_is s),
          label-length s g.2,
        ),
        o.entries,
      );
      stop = o.stop;
      side = o.side;
    }
carried f (right l s ∷ q) c r g h =
    let o = carried false q c r g.4 (omega arith) in
    record {
      entries = ((omega (arith, weight_is s), label-length s g.1), o.entries);
      stop = o.stop;
      side = o.side;
    }
carried f (pass d ∷ q) c r g h =
    let o = carried false q c r g.1 (omega arith) in
    record { entries = (sent_any f d g.0, o.entries); stop = o.stop; side = o.side }

module _ (p : ℕ) (bs : List Block) (l : WithinLimits bs) (in_row : p ≤ length bs)
    (few : length (way_to p bs).entries ≤ 200) where
  pub way-writable : Writable (labelled sha256 (way_to p bs))
  way-writable =
      let w = way-whole p bs l.sound in_row in
      let o = carried true (way_to p bs).entries (way_to p bs).item (way_to p bs).side
      (rw w (tree-good Kept true head (row bs) (refl, refl) (fit_row bs l.sound)))
      (omega (arith, ap rank w, root-rank bs, l.count)) in
      record {
        few = omega (arith, length-map (way_to p bs).entries (entry_of 𝓢));
        levels = (way-accepted sha256 p bs l in_row).form.levels;
        entries = o.entries;
        stop = o.stop;
        side = o.side;
      }

  pub way-place : place_of (proof_for p bs) ≡ labelled sha256 (way_to p bs)
  way-place = written_read (labelled sha256 (way_to p bs)) way-writable

  pub way_fine : (m : Metadata) → held_side m ≡ metadata_of sha256 bs → finding_of (proof_for p bs) p m ≡ Ok tt
  way_fine m held =
      accepted-fine (proof_for p bs) p m (written_formed (labelled sha256 (way_to p bs)) way-writable)
      (subst (λ z. Accepted sha256 Sent most_height p (held_side m) z) (sym way-place)
      (subst (λ s. Accepted sha256 Sent most_height p s (labelled sha256 (way_to p bs))) (sym held)
      (way-accepted sha256 p bs l in_row)))

-- what the commands with one proof say does not hang on the second
reported_same : (o : Operation) (p h : ℕ) (t : List ℕ) (z w v : Place Side) → (o ≡ Delete → w ≡ v)
    → reported (order_of o p h t) z w ≡ reported (order_of o p h t) z v
reported_same Read p h t z w v e = refl
reported_same Replace p h t z w v e = refl
reported_same Insert p h t z w v e = refl
reported_same Delete p h t z w v e = ap (λ (y : Place Side). shown y.item) (e refl)

predicted_same : (o : Operation) (p h : ℕ) (t : List ℕ) (m : Side) (z w v : Place Side) → (o ≡ Delete → w ≡ v)
    → predicted sha256 (order_of o p h t) m z w ≡ predicted sha256 (order_of o p h t) m z v
predicted_same Read p h t m z w v e = refl
predicted_same Replace p h t m z w v e = refl
predicted_same Insert p h t m z w v e = refl
predicted_same Delete p h t m z w v e = ap (deleted 𝓢 side-discrete z) (e refl)

-- where Delete's prediction is there, the proofs meet
predicted-meets : (o : Operation) (p h : ℕ) (t : List ℕ) (m : Side) (z w : Place Side) (s : Side)
    → predicted sha256 (order_of o p h t) m z w ≡ some s → o ≡ Delete → meets 𝓢 side-discrete z w ≡ true
predicted-meets Read p h t m z w s e q = never cc
predicted-meets Replace p h t m z w s e q = never cc
predicted-meets Insert p h t m z w s e q = never cc
predicted-meets Delete p h t m z w s e q = go (meets 𝓢 side-discrete z w) e
  where
    go : (x : Bool) → cond x (some (remains 𝓢 side-discrete z w)) none ≡ some s → x ≡ true
    go true f = refl
    go false f = none-some f

later_rules-done : (o : Operation) (m : Metadata) (p : ℕ) (t a b : List ℕ)
    → (o ≡ Insert → repeats_at p t (shown (place_of a).item) ≡ false) → (o ≡ Delete → finding_of b p m ≡ Ok tt)
    → (o ≡ Delete → meets 𝓢 side-discrete (place_of a) (place_of b) ≡ true) → verdict_of (later_rules o m p t a b) ≡ Ok tt
later_rules-done Read m p t a b n f e = refl
later_rules-done Replace m p t a b n f e = refl
later_rules-done Insert m p t a b n f e = rw (n refl)
later_rules-done Delete m p t a b n f e =
    verdict-append (proof_rules Second b p m) ((NotNeighbours when not
    (meets 𝓢 side-discrete (place_of a) (place_of b))) ∷ [])
    (found_rules Second b p m (f refl)) ∙ rw (e refl)

-- the honest first proof passes, so the verdict is that of the rules after it
module _ (m : Metadata) (k : Command) (a b : List ℕ) (bs : List Block) (l : WithinLimits bs)
    (range : InRange (meaning k) (length bs)) (held : held_side m ≡ metadata_of sha256 bs)
    (ea : a ≡ proof_for (first_at (meaning k)) bs) (few : length (way_to (first_at (meaning k)) bs).entries ≤ most_entries)
  where
    honest_opening : verdict_of (opening_rules m k) ≡ Ok tt
    honest_opening =
        let count : m.count ≡ length bs = ap (λ (s : Side). s.rank) held ∙ metadata_count sha256 bs in
        rw (le-ltb 4096 m.count (omega (arith, count, l.count)))
        (range_admitted k.operation k.position k.height k.tag m.count
        (subst (InRange (meaning k)) (sym count) range))

    pub honest_passes : verdict_of (gateway_rules m k a b)
        ≡ verdict_of (later_rules k.operation m k.position k.tag a b)
    honest_passes =
        let p = first_at (meaning k) in
        let in_row = first_in_row k.operation k.position k.height k.tag (length bs) range in
        let fine : finding_of a p m ≡ Ok tt = rw ea (way_fine p bs l in_row few m held) in
        let last = later_rules k.operation m k.position k.tag a b in
        verdict-append (opening_rules m k) (proof_rules First a p m ++ last) honest_opening
        ∙ verdict-append (proof_rules First a p m) last (found_rules First a p m fine)

-- the tag at the stop of Insert's honest proof is the one at its place
pub honest_tag : (k : Command) (a : List ℕ) (bs : List Block) → WithinLimits bs → InRange (meaning k) (length bs)
    → a ≡ proof_for (first_at (meaning k)) bs → length (way_to (first_at (meaning k)) bs).entries ≤ most_entries
    → k.operation ≡ Insert → shown (place_of a).item ≡ tag_at k.position bs
honest_tag k a bs l range ea few q =
    let place : place_of a ≡ labelled sha256 (way_to (first_at (meaning k)) bs) = ap place_of ea
    ∙ way-place (first_at (meaning k)) bs l
    (first_in_row k.operation k.position k.height k.tag (length bs) range) few in
    ap (λ (z : Place Side). shown z.item) (rw q at place)
    ∙ (rw q at (reported-way sha256 bs l.sound (meaning k) range))

pub honest_accepted : HonestAccepted
unfolding gateway_of
honest_accepted m k a b bs l range anew held ea few eb = rw done
    (λ i. record { verdict = Ok tt; tag = tag i; metadata = new i })
  where
    o : Operation
    o = k.operation

    in_row : first_at (meaning k) ≤ length bs
    in_row = first_in_row k.operation k.position k.height k.tag (length bs) range

    at_row : k.position ≤ length bs
    at_row = spot_in_row k.operation k.position k.height k.tag (length bs) range

    fine : finding_of a (first_at (meaning k)) m ≡ Ok tt
    fine = rw ea (way_fine (first_at (meaning k)) bs l in_row few m held)

    place : place_of a ≡ labelled sha256 (way_to (first_at (meaning k)) bs)
    place = ap place_of ea ∙ way-place (first_at (meaning k)) bs l in_row few

    other : k.operation ≡ Delete → place_of b ≡ labelled sha256 (way_to (spot (meaning k)) bs)
    other q = ap place_of (eb q).0 ∙ way-place k.position bs l at_row (eb q).1
        ∙ ap (λ p. labelled sha256 (way_to p bs)) (sym (spot_is k.operation k.position k.height k.tag))

    foretold : predicted sha256 (meaning k) (held_side m) (place_of a) (place_of b)
        ≡ some (metadata_of sha256 (edited (meaning k) bs))
    foretold =
        predicted_same k.operation k.position k.height k.tag (held_side m) (place_of a) (place_of b)
        (labelled sha256 (way_to (spot (meaning k)) bs)) other
        ∙ ap₂ (λ s z. predicted sha256 (meaning k) s z (labelled sha256 (way_to (spot (meaning k)) bs))) held place
        ∙ predicted-way sha256 bs l.sound (meaning k) range

    met : k.operation ≡ Delete → meets 𝓢 side-discrete (place_of a) (place_of b) ≡ true
    met q = predicted-meets k.operation k.position k.height k.tag (held_side m) (place_of a) (place_of b)
        (metadata_of sha256 (edited (meaning k) bs)) foretold q

    other_tag : k.operation ≡ Insert → repeats_at k.position k.tag (shown (place_of a).item) ≡ false
    other_tag q = rw (honest_tag k a bs l range ea few q) (rw q at (not_again bs k range anew))

    last : verdict_of (later_rules k.operation m k.position k.tag a b) ≡ Ok tt
    last = later_rules-done k.operation m k.position k.tag a b other_tag
        (λ q. rw (eb q).0 (way_fine k.position bs l at_row (eb q).1 m held)) met

    done : verdict_of (gateway_rules m k a b) ≡ Ok tt
    done = honest_passes m k a b bs l range held ea few ∙ last

    tag : reported (meaning k) (place_of a) (place_of b) ≡ tag_at (spot (meaning k)) bs
    tag =
        reported_same k.operation k.position k.height k.tag (place_of a) (place_of b)
        (labelled sha256 (way_to (spot (meaning k)) bs)) other
        ∙ ap (λ z. reported (meaning k) z (labelled sha256 (way_to (spot (meaning k)) bs))) place
        ∙ reported-way sha256 bs l.sound (meaning k) range

    new : new_metadata k.operation k.height k.tag m a b
        ≡ metadata_of_side (metadata_of sha256 (edited (meaning k) bs))
    new = ap metadata_of_side (some_inj (sym (new-predicted k.operation k.position k.height k.tag m a b
        met) ∙ foretold))
