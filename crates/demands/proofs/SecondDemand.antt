-- Demand 2: the store's theorems on rows within the limits and the gateway's on honest proofs, one after the other.
-- Assumes nothing.
use Rattle.std.specs.Prelude.{Ok}
use Prim.Native.Nat.{ℕ, ◌≤◌}
use native.Mathlib.Omega.{arith}
use mathlib.Core.Path.{◌≡◌, refl, sym, ap, ◌∙◌}
use mathlib.Core.List.{List, ◌++◌}
use lib.ListN.{length, length-map}
use Rattle.octets.proofs.PartLaws.{part-patch}
use Rattle.sha256.specs.Hash.{sha256}
use Rattle.sha256.proofs.Answers.{digest_done}
use Rattle.skiplist.specs.Entry.{Place, map_entry}
use Rattle.skiplist.specs.Sides.{side_of}
use Rattle.skiplist.specs.Label.{Side, sides, labelled}
use Rattle.skiplist.specs.Blocks.{Block, WithinLimits, way_to, tag_at}
use Rattle.skiplist.specs.Commands.{edited, spot, first_at}
use Rattle.skiplist.proofs.WayLaws.{metadata_count}
use Rattle.commands.specs.declared.Operation.TheVariants.{Delete}
use Rattle.commands.specs.declared.Command.{Command}
use Rattle.commands.specs.Meaning.{held_side, meaning}
use Rattle.commands.proofs.RangeLaws.{first_in_row, spot_is, spot_in_row}
use Rattle.archive.specs.Form.{image_of}
use Rattle.archive.specs.Writing.{spare_after}
use Rattle.proofbytes.specs.Layout.{proof_size}
use Rattle.proofbytes.specs.Reading.{count_of}
use Rattle.proofbytes.proofs.ReadingLaws.{length-entries}
use Rattle.proofbytes.proofs.FormLaws.{form_sized}
use Rattle.proofbytes.proofs.ReadBack.{written_formed}
use Rattle.store.specs.declared.Checked.{Checked}
use Rattle.store.specs.Answers.{check_of, prove_of, buffer_after, apply_of, image_after}
use Rattle.store.proofs.Theorems.{check_row, prove_row, apply_row, edited-within}
use Rattle.gateway.specs.declared.Answer.{Answer}
use Rattle.gateway.specs.Gateway.{accepted_of}
use Rattle.gateway.proofs.Honest.{way-writable, way-place, honest_accepted}
use Rattle.demands.proofs.Placed.{all_placed}
use Rattle.demands.specs.ThirdDemand.{held}
use Rattle.demands.specs.SecondDemand.{entry_count, the_proof, Room, Proven, sent, gateway_answers, Serves}
use Rattle.demands.specs.SecondDemand.{SecondDemand}

-- CHECK of a row's image
pub check_answers : (bs : List Block) → WithinLimits bs → (spare : List ℕ)
    → check_of (image_of bs ++ spare) ≡ record { verdict = Ok tt; metadata = held bs }
check_answers bs l spare =
    let c = check_row bs l spare (check_of (image_of bs ++ spare)) (record { verdict = refl; metadata = refl }) in
    let n : (check_of (image_of bs ++ spare)).metadata.count ≡ (held bs).count = c.1 ∙ sym (metadata_count sha256 bs) in
    λ i. record { verdict = c.0 i; metadata = record { count = n i; label = c.2 i } }

-- PROVE of a position: the bytes are those of the one proof
module _ (bs : List Block) (l : WithinLimits bs) (spare : List ℕ) (p : ℕ) (in_row : p ≤ length bs)
    (lent : List ℕ) (at : ℕ) (r : Room bs p lent at) where
  proof-length : length (the_proof bs p) ≡ proof_size (entry_count bs p)
  proof-length =
      let s = the_proof bs p in
      let w = written_formed (labelled sha256 (way_to p bs)) (way-writable p bs l in_row r.few) in
      let k : count_of s ≡ entry_count bs p =
      sym (length-entries s 0 (count_of s))
      ∙ ap (λ (z : Place Side). length z.entries) (way-place p bs l in_row r.few)
      ∙ length-map (way_to p bs).entries (map_entry (side_of (sides sha256))) in
      omega (arith, (form_sized s w).long, k)

  proven : Proven bs (image_of bs ++ spare) p lent at
  proven =
      let b = image_of bs ++ spare in
      let a = prove_row bs l spare p lent at (prove_of b p (length lent) at) (buffer_after b p lent at) in_row
      r.few r.fits (record { verdict = refl; bytes = refl; entries = refl; buffer = refl }) in
      record {
        answer = λ i. record { verdict = a.0 i; length = a.1 i; entries = a.2 i };
        buffer = a.3;
        proof = rw (a.1, a.3)
            (part-patch lent (the_proof bs p) at (proof_size (entry_count bs p)) (omega (arith, r.fits)) proof-length);
      }

-- THE WHOLE RUN
serves : (bs : List Block) (spare : List ℕ) (k : Command) (lent : List ℕ) (at : ℕ) (lent' : List ℕ) (at' : ℕ)
    → Serves bs spare k lent at lent' at'
serves bs spare k lent at lent' at' s other is = record {
  checked = checked;
  first = first;
  second = second;
  accepted = ap (λ (x : Answer). x.verdict) answer;
  tag = ap (λ (x : Answer). x.tag) answer
      ∙ ap (λ p. tag_at p bs) (spot_is k.operation k.position k.height k.tag);
  applied = λ i. record { verdict = applied.0 i; count = applied.1 i };
  edited_image = applied.2;
  metadata = ap check_of applied.2 ∙ check_answers after within spare_then
      ∙ sym (ap (λ m. record { verdict = Ok tt; metadata = m }) afresh);
  afresh = afresh;
}
  where
    image : List ℕ
    image = image_of bs ++ spare

    after : List Block
    after = edited (meaning k) bs

    spare_then : List ℕ
    spare_then = spare_after (length bs) (length after) spare

    checked : check_of image ≡ record { verdict = Ok tt; metadata = held bs }
    checked = check_answers bs s.limits spare

    first : Proven bs image (first_at (meaning k)) lent at
    first = proven bs s.limits spare (first_at (meaning k))
        (first_in_row k.operation k.position k.height k.tag (length bs) s.range) lent at s.first

    second : k.operation ≡ Delete → Proven bs image k.position lent' at'
    second q = proven bs s.limits spare k.position
        (spot_in_row k.operation k.position k.height k.tag (length bs) s.range) lent' at' (s.second q)

    answer : gateway_answers bs spare k lent at lent' at' other ≡ accepted_of (tag_at (spot (meaning k)) bs) (held after)
    answer = honest_accepted (check_of image).metadata k
        (sent bs spare k lent at lent' at' (first_at (meaning k)) lent at) other bs s.limits s.range s.anew
        (ap (λ (x : Checked). held_side x.metadata) checked) first.proof s.first.few
        (λ q. (is q ∙ (second q).proof, (s.second q).few))

    applied : ((apply_of image k).verdict ≡ Ok tt) × ((apply_of image k).count ≡ length after)
        × (image_after image k ≡ image_of after ++ spare_then)
    applied = apply_row bs s.limits spare k (apply_of image k) (image_after image k) s.range s.tag s.anew s.image
        (record { verdict = refl; count = refl; image = refl })

    within : WithinLimits after
    within = edited-within k bs s.limits s.range s.tag

    afresh : (gateway_answers bs spare k lent at lent' at' other).metadata ≡ held after
    afresh = ap (λ (x : Answer). x.metadata) answer

pub second_demand : SecondDemand
second_demand = record { digested = digest_done; served = serves; placed = all_placed }
