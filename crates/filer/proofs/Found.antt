-- THE PLACE THAT THE STORE FINDS IS ACCEPTED: the gateway's checks pass on honest proofs, the blocks shown are those whose tags stand there,
-- and their times are those around the place.
-- Assumes nothing.
use Rattle.std.specs.Prelude.{Ok}
use Prim.Native.Nat.{ℕ, zero, suc, ◌+◌, ◌≤◌, ◌<◌}
use native.Mathlib.Omega.{arith}
use mathlib.Core.Path.{◌≡◌, refl, sym, ap, ◌∙◌}
use mathlib.Core.Logic.{◌⊎◌, inl, inr}
use mathlib.Core.Bool.{Bool, false, not, ◌&&◌, ◌||◌}
use mathlib.Core.List.{List, [], ◌++◌}
use lib.Dec.{ltb, leb}
use lib.ListN.{length, get_or, length-map}
use borrow.Author.Tests.{lt-ltb, le-ltb, le-leb}
use Rattle.octets.proofs.RunLaws.{same_refl}
use Rattle.refusals.specs.declared.Which.TheVariants.{Second}
use Rattle.refusals.specs.Order.{verdict_of}
use Rattle.refusals.proofs.OrderLaws.{verdict-append}
use Rattle.sha256.specs.Hash.{sha256}
use Rattle.skiplist.specs.Label.{Side}
use Rattle.skiplist.specs.Limits.{most_blocks, most_height}
use Rattle.skiplist.specs.Blocks.{Block, WithinLimits, metadata_of, shown, tag_after, tag_at}
use Rattle.skiplist.specs.Commands.{InRange}
use Rattle.skiplist.proofs.Cases.{order, never}
use Rattle.skiplist.proofs.WayLaws.{metadata_count}
use Rattle.commands.specs.declared.Metadata.{Metadata}
use Rattle.commands.specs.declared.Operation.TheVariants.{Insert}
use Rattle.commands.specs.declared.Command.{Command}
use Rattle.commands.specs.Meaning.{held_side, metadata_of_side, meaning}
use Rattle.commands.specs.Again.{Again}
use Rattle.labels.specs.Tags.{most_readings}
use Rattle.proofbytes.specs.Reading.{place_of}
use Rattle.gateway.specs.declared.Answer.{Answer}
use Rattle.gateway.specs.Gateway.{gateway_rules, gateway_of, accepted_of, inserted_of}
use Rattle.gateway.proofs.Demands.{found_rules}
use Rattle.gateway.proofs.Honest.{way_fine, honest_tag, honest_accepted}
use Rattle.times.proofs.PlaceLaws.{Fits, place-fits}
use Rattle.filer.specs.Filing.{Timed, Proposal, tag_for, insertion, either, is_long, long_of, second_rules, matched, wrong_of}
use Rattle.filer.specs.Filing.{untimely, neighbour_rules, filing_rules, filed_of}
use Rattle.filer.specs.Archive.{Stand, times_of, block_after, NoneLong}
use Rattle.filer.specs.Demand.{row_with, Honest, HonestShown, Provable, PlaceAccepted}
use Rattle.filer.proofs.Standing.{stand-length, stand-tag, block_short, time_after}

-- neighbours that are needed do not fail
either_holds : (p n : ℕ) (x y : Bool) → ((i : ℕ) → p ≡ suc i → x ≡ false) → (p < n → y ≡ false) → either p n x y ≡ false
either_holds p n x y l r = both p refl (order p n)
  where
    right : (p < n) ⊎ (n ≤ p) → ltb p n && y ≡ false
    right (inl h) = rw (lt-ltb p n h) (r h)
    right (inr h) = rw (le-ltb p n h)

    both : (i : ℕ) → p ≡ i → (p < n) ⊎ (n ≤ p) → (ltb 0 p && x) || (ltb p n && y) ≡ false
    both zero e h = let no : ltb 0 p ≡ false = le-ltb 0 p (omega (arith, e)) in rw no (right h)
    both (suc i) e h = rw (l i e, lt-ltb 0 p (omega (arith, e))) (right h)

module _ (m : Metadata) (q : Proposal) (first second : List ℕ) (bs : List Block) (xs : List Timed) (l : WithinLimits bs)
    (held : held_side m ≡ metadata_of sha256 bs) (stand : Stand xs bs) (short : NoneLong xs)
    (small : length q.new.readings ≤ most_readings) (low : q.height ≤ most_height) (space : length bs < most_blocks)
    (anew : Again bs (insertion q) → ⊥) (h : Honest q first second bs xs) (few : Provable q.position bs)
    (few_next : q.position < length bs → Provable (q.position + 1) bs) where
  count : m.count ≡ length bs
  count = ap (λ (s : Side). s.rank) held ∙ metadata_count sha256 bs

  fits : Fits q.position (times_of xs) q.new.time
  fits = rw h.place (place-fits (times_of xs) q.new.time)

  times : length (times_of xs) ≡ length bs
  times = length-map xs (λ (x : Timed). x.time) ∙ stand-length xs bs stand

  in_row : q.position ≤ length bs
  in_row = omega (arith, fits.within, times)

  -- INSERT'S OWN
  range : InRange (meaning (insertion q)) (length bs)
  range = (in_row, low, space)

  inserted : gateway_of m (insertion q) first [] ≡ accepted_of (tag_at q.position bs)
      (metadata_of_side (metadata_of sha256 (row_with q bs)))
  inserted = honest_accepted m (insertion q) first [] bs l range anew held h.proof few (λ e. never cc)

  insert_done : verdict_of (gateway_rules m (insertion q) first []) ≡ Ok tt
  unfolding gateway_of
  insert_done = ap (λ (r : Answer). r.verdict) inserted

  first-tag : shown (place_of first).item ≡ tag_at q.position bs
  first-tag = honest_tag (insertion q) first bs l range h.proof few refl

  new-metadata : inserted_of q.height (tag_for q.new) first ≡ metadata_of_side (metadata_of sha256 (row_with q bs))
  unfolding gateway_of
  new-metadata = rw insert_done at (ap (λ (r : Answer). r.metadata) inserted)

  -- THE SECOND PROOF
  module _ (k : q.position < length bs) where
    abbrev next : Command
    next = record { operation = Insert; position = q.position + 1; height = q.height; tag = tag_for q.new }

    second-tag : shown (place_of second).item ≡ tag_after q.position bs
    second-tag =
        let e : q.position + 1 ≡ suc q.position = omega arith in
        honest_tag next second bs l (omega (arith, k), low, space) (h.next_proof k) (few_next k) refl ∙ ap (λ i. tag_at i bs) e

    second_fine : verdict_of (second_rules m q.position second) ≡ Ok tt
    second_fine =
        let c : q.position < m.count = omega (arith, count, k) in
        rw (lt-ltb q.position m.count c, h.next_proof k)
        (found_rules Second _ (q.position + 1) m (way_fine (q.position + 1) bs l (omega (arith, k)) (few_next k) m held))

  second-done : verdict_of (second_rules m q.position second) ≡ Ok tt
  second-done = go (order q.position (length bs))
    where
      go : (q.position < length bs) ⊎ (length bs ≤ q.position) → verdict_of (second_rules m q.position second) ≡ Ok tt
      go (inl k) = second_fine k
      go (inr k) = rw (le-ltb q.position m.count (omega (arith, count, k)))

  -- THE BLOCKS
  left_in : (i : ℕ) → q.position ≡ suc i → i < length bs
  left_in i e = omega (arith, e, in_row)

  right_in : q.position < m.count → q.position < length bs
  right_in k = omega (arith, k, count)

  not_long : long_of q.position m.count q.new.readings q.left.readings q.right.readings ≡ false
  not_long =
      rw (le-ltb most_readings (length q.new.readings) small)
      (either_holds q.position m.count (is_long q.left.readings) (is_long q.right.readings)
      (λ i e. rw (h.left i e) (le-ltb most_readings _ (block_short xs i short (omega (arith, left_in i e, stand-length xs bs stand)))))
      (λ k. rw (h.right (right_in k)) (le-ltb most_readings _
      (block_short xs q.position short (omega (arith, right_in k, stand-length xs bs stand))))))

  matches : (x : Timed) (s : List ℕ) (i : ℕ) → i < length bs → x ≡ block_after i xs → shown (place_of s).item ≡ tag_after i bs
      → not (matched x s) ≡ false
  matches x s i k e t =
      let same_tags : tag_for x ≡ shown (place_of s).item = ap tag_for e ∙ stand-tag xs bs i stand k ∙ sym t in
      rw (sym same_tags, same_refl (tag_for x))

  right_blocks : wrong_of q.position m.count q.left q.right first second ≡ false
  right_blocks =
      either_holds q.position m.count (not (matched q.left first)) (not (matched q.right second))
      (λ i e. matches q.left first i (left_in i e) (h.left i e) (first-tag ∙ ap (λ j. tag_at j bs) e))
      (λ k. matches q.right second q.position (right_in k) (h.right (right_in k)) (second-tag (right_in k)))

  -- THE TIMES
  in_time : untimely q.position m.count q.new.time q.left.time q.right.time ≡ false
  in_time =
      either_holds q.position m.count (not (leb q.left.time q.new.time)) (not (ltb q.new.time q.right.time))
      (λ i e.
      let t : q.left.time ≡ get_or (times_of xs) i 0 = ap (λ (x : Timed). x.time) (h.left i e) ∙ sym (time_after i xs) in
      rw (le-leb q.left.time q.new.time (omega (arith, t, fits.left i e))))
      (λ k.
      let t : q.right.time ≡ get_or (times_of xs) q.position 0 =
      ap (λ (x : Timed). x.time) (h.right (right_in k)) ∙ sym (time_after q.position xs) in
      rw (lt-ltb q.new.time q.right.time (omega (arith, t, fits.right (omega (arith, times, right_in k))))))

  done : verdict_of (filing_rules m q first second) ≡ Ok tt
  done =
      let rest = neighbour_rules q.position m.count q.new.time q.left q.right first second in
      rw not_long
      (verdict-append (gateway_rules m (insertion q) first []) (second_rules m q.position second ++ rest) insert_done
      ∙ verdict-append (second_rules m q.position second) rest second-done ∙ rw (right_blocks, in_time))

  found : filed_of m q first second ≡ accepted_of (tag_at q.position bs) (metadata_of_side (metadata_of sha256 (row_with q bs)))
  unfolding filed_of
  found = rw done (λ i. record { verdict = Ok tt; tag = first-tag i; metadata = new-metadata i })

pub honest_shown : HonestShown
honest_shown h new bs xs = record {
  place = refl;
  left = λ i e. ap (λ j. block_after j xs) (omega (arith, e));
  right = λ k. refl;
  proof = refl;
  next_proof = λ k. refl;
}

pub place_accepted : PlaceAccepted
place_accepted m q first second bs xs l held stand short small low space anew h few few_next =
    found m q first second bs xs l held stand short small low space anew h few few_next
