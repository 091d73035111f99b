-- DEMAND 2, the gateway's half, for joint proofs: spelling out the honest joint proof gives the honest single proofs, each of which the
-- gateway accepts.
-- Assumes nothing.
use Rattle.std.specs.Prelude.{Ok}
use Prim.Native.Nat.{ℕ, suc, ◌+◌, ◌*◌, ◌≤◌, ◌<◌}
use native.Mathlib.Omega.{arith}
use native.Mathlib.Numerals.{add-one}
use mathlib.Core.Path.{◌≡◌, refl, sym, ap, ap₂, subst, ◌∙◌}
use mathlib.Core.Bool.{true}
use mathlib.Core.List.{List, [], ◌∷◌, ◌++◌, map, append_assoc, append-nil}
use lib.ListN.{length, get_or, take, drop, length-append, length-map, get_or-map, take-append-drop}
use borrow.Author.Tests.{le-ltb}
use Rattle.octets.specs.Numbers.{be}
use Rattle.octets.specs.Runs.{patch}
use Rattle.octets.proofs.NumberLaws.{length-be}
use Rattle.refusals.specs.Order.{verdict_of}
use Rattle.sha256.specs.Hash.{sha256}
use Rattle.skiplist.specs.Entry.{Entry, down, right, pass, Place}
use Rattle.skiplist.specs.Label.{Side, labelled}
use Rattle.skiplist.specs.Blocks.{Block, WithinLimits, way_to, metadata_of, tag_at}
use Rattle.skiplist.proofs.WayLaws.{metadata_count}
use Rattle.commands.specs.declared.Metadata.{Metadata}
use Rattle.commands.specs.Meaning.{held_side, metadata_of_side}
use Rattle.proofbytes.specs.Writing.{header_bytes, field_bytes, entry_bytes, entries_bytes, stop_fields, stop_bytes, proof_bytes}
use Rattle.proofbytes.specs.Form.{AllFit, Writable}
use Rattle.proofbytes.proofs.ReadBack.{length-entry, length-stop}
use Rattle.jointbytes.specs.Positions.{is_set, within}
use Rattle.jointbytes.specs.Spelling.{Raw, joined, spelled, raw_of, common, later_bytes, body_bytes}
use Rattle.jointbytes.specs.Form.{joint_fits}
use Rattle.jointbytes.specs.Proper.{EntryRecords, Proper, AllProper}
use Rattle.jointbytes.proofs.CommonLaws.{joined-append, entries_long, length-joined}
use Rattle.jointbytes.proofs.PositionLaws.{set_some, set_few}
use Rattle.jointbytes.proofs.Respelled.{joined_fits, respelled_at}
use Rattle.gateway.specs.Gateway.{gateway_of, accepted_of}
use Rattle.gateway.specs.Demand.{proof_for}
use Rattle.gateway.proofs.Honest.{way-writable, honest_accepted}
use Rattle.jointgateway.specs.Joint.{proof_at, opening_rules, tags_of, no_tags, joint_of}
use Rattle.jointbytes.specs.Paths.{joint_for, AllShort}
use Rattle.jointgateway.specs.Demand.{read_at, EveryRead, tags_at, Respells, JointHonest}
use Rattle.jointgateway.proofs.JointDemands.{within_head, tag_of, read-tag, accepted_exactly}
use Rattle.skiplist.proofs.Cases.{never}

-- THE RECORDS OF A PATH that can be written
kinds : (e : Entry Side) → get_or (entry_bytes e) 0 0 < 2
unfolding field_bytes
kinds (down l s) = omega arith
kinds (right l s) = omega arith
kinds (pass c) = omega arith

entry_records : (es : List (Entry Side)) → AllFit es → EntryRecords (map entry_bytes es)
entry_records [] k = tt
entry_records (e ∷ es) k = ((length-entry e k.0, kinds e), entry_records es k.1)

raw-proper : (z : Place Side) → Writable z → Proper (raw_of z)
unfolding field_bytes stop_fields
raw-proper z w = record {
  entries = entry_records z.entries w.entries;
  few = omega (arith, length-map z.entries entry_bytes, w.few);
  stop_size_is = length-stop z.item z.side w.stop w.side;
  stop_kind_holds = refl;
}

joined-entries : (es : List (Entry Side)) → joined (map entry_bytes es) ≡ entries_bytes es
unfolding joined entries_bytes
joined-entries [] = refl
joined-entries (e ∷ es) = ap (λ x. entry_bytes e ++ x) (joined-entries es)

-- spelled out, they are the path's proof
spelled-raw : (z : Place Side) → spelled (raw_of z) ≡ proof_bytes z
unfolding proof_bytes
spelled-raw z =
    ap₂ (λ n x. header_bytes n ++ (x ++ stop_bytes z.item z.side)) (length-map z.entries entry_bytes)
    (joined-entries z.entries)

-- THE LENGTH fits four bytes: a piece has a shared number, no more than 65,535 entries, and a stop
piece_size : (xs : List (List ℕ)) (c : ℕ) → EntryRecords xs → length (joined (drop c xs)) ≤ 38 * length xs
piece_size xs c k =
    let a : joined (take c xs) ++ joined (drop c xs) ≡ joined xs =
    sym (joined-append (take c xs) (drop c xs)) ∙ ap joined (take-append-drop c xs) in
    let b = length-append (joined (take c xs)) (joined (drop c xs)) in
    let d = length-joined xs (entries_long xs k) in
    omega (arith, ap length a, b, d)

later_size : (q : Raw) (rs : List Raw) → AllProper rs → length (later_bytes q rs) ≤ 2490406 * length rs
unfolding later_bytes
later_size q [] k = omega arith
later_size q (r ∷ rs) k =
    let c = common q.entries r.entries in
    let own = joined (drop c r.entries) in
    omega (
      arith,
      length-append (be 2 c) (own ++ (r.stop ++ later_bytes r rs)),
      length-be 2 c,
      length-append own (r.stop ++ later_bytes r rs),
      length-append r.stop (later_bytes r rs),
      piece_size r.entries c k.0.entries,
      k.0.few,
      k.0.stop_size_is,
      later_size r rs k.1,
      add-one (length rs),
    )

body_size : (rs : List Raw) → AllProper rs → length (body_bytes rs) ≤ 2490406 * length rs
unfolding body_bytes
body_size [] k = omega arith
body_size (r ∷ rs) k =
    omega (
      arith,
      length-append (joined r.entries) (r.stop ++ later_bytes r rs),
      length-append r.stop (later_bytes r rs),
      length-joined r.entries (entries_long r.entries k.0.entries),
      k.0.few,
      k.0.stop_size_is,
      later_size r rs k.1,
      add-one (length rs),
    )

-- THE HONEST JOINT PROOF
abbrev raw_for : List Block → ℕ → Raw
raw_for bs p = raw_of (labelled sha256 (way_to p bs))

module _ (bs : List Block) (l : WithinLimits bs) where
  all_proper : (ps : List ℕ) → within (length bs) ps ≡ true → AllShort ps bs → AllProper (map (raw_for bs) ps)
  all_proper [] k f = tt
  all_proper (p ∷ ps) k f =
      let w = within_head (length bs) p ps k in (
        raw-proper (labelled sha256 (way_to p bs)) (way-writable p bs l w.1 f.0),
        all_proper ps w.2 f.1,
      )

  joint_form : (ps : List ℕ) → is_set ps ≡ true → within (length bs) ps ≡ true → AllShort ps bs
      → joint_fits (length ps) (joint_for ps bs) ≡ true
  joint_form [] k w f = absurd (omega (arith, set_some [] k))
  joint_form (p ∷ ps) k w f =
      let a = all_proper (p ∷ ps) w f in
      let n = length-map (p ∷ ps) (raw_for bs) in
      subst (λ x. joint_fits x (joint_for (p ∷ ps) bs) ≡ true) n
      (joined_fits (raw_for bs p) (map (raw_for bs) ps) a
      (omega (arith, body_size (map (raw_for bs) (p ∷ ps)) a, n, set_few (p ∷ ps) k)))

pub respells : Respells
respells [] bs l w f i h = absurd (omega arith)
respells (p ∷ ps) bs l w f i h =
    let g = raw_for bs in
    let n = length-map (p ∷ ps) g in
    ap spelled (respelled_at (g p) (map g ps) (all_proper bs l (p ∷ ps) w f) i (g 0) (omega (arith, n, h))
    ∙ get_or-map g (p ∷ ps) i 0)
    ∙ spelled-raw (labelled sha256 (way_to (get_or (p ∷ ps) i 0) bs))

-- EACH SINGLE PROOF IS ACCEPTED, with its tag
module _ (m : Metadata) (bs : List Block) (l : WithinLimits bs) (held : held_side m ≡ metadata_of sha256 bs) where
  read_honest : (p : ℕ) → 1 ≤ p → p ≤ length bs → length (way_to p bs).entries ≤ 200
      → gateway_of m (read_at p) (proof_for p bs) [] ≡ accepted_of (tag_at p bs) (metadata_of_side (metadata_of sha256 bs))
  read_honest p low high few =
      honest_accepted m (read_at p) (proof_for p bs) [] bs l (low, high)
      (λ w. let q = w.insert in never cc) held refl few
      (λ q. never cc)

  -- the proofs from the i-th on, where they are the honest ones for ps
  module _ (s : List ℕ) where
    every_read : (ps : List ℕ) (i : ℕ) → within (length bs) ps ≡ true → AllShort ps bs
        → ((j : ℕ) → j < length ps → proof_at s (i + j) ≡ proof_for (get_or ps j 0) bs)
        → EveryRead m s i ps × (tags_of s (i + length ps) ≡ tags_of s i ++ tags_at ps bs)
    unfolding tags_of tags_at
    every_read [] i w f k =
        let e : i + 0 ≡ i = omega arith in
        (tt, ap (tags_of s) e ∙ sym (append-nil (tags_of s i)))
    every_read (p ∷ ps) i w f k =
        let o = within_head (length bs) p ps w in
        let e : i ≡ i + 0 = omega arith in
        let b : i + suc (length ps) ≡ suc i + length ps = omega (arith, add-one i, add-one (length ps)) in
        let here : proof_at s i ≡ proof_for p bs = ap (proof_at s) e ∙ k 0 (omega (arith, add-one (length ps))) in
        let is : gateway_of m (read_at p) (proof_at s i) [] ≡ accepted_of (tag_at p bs) (metadata_of_side (metadata_of sha256 bs)) =
        ap (λ x. gateway_of m (read_at p) x []) here ∙ read_honest p o.0 o.1 f.0 in
        let done : (gateway_of m (read_at p) (proof_at s i) []).verdict ≡ Ok tt = ap (λ x. x.verdict) is in
        let tag : tag_of s i ≡ tag_at p bs = sym (read-tag m p (proof_at s i) done) ∙ ap (λ x. x.tag) is in
        let rest = every_read ps (suc i) o.2 f.1 (λ j h.
        let c : suc i + j ≡ i + suc j = omega (arith, add-one i, add-one j) in
        ap (proof_at s) c ∙ k (suc j) (omega (arith, h, add-one j, add-one (length ps)))) in (
          (done, rest.0),
          ap (tags_of s) b ∙ rest.1 ∙ append_assoc (tags_of s i) (tag_of s i) (tags_at ps bs)
              ∙ ap (λ x. tags_of s i ++ (x ++ tags_at ps bs)) tag,
        )

pub joint_honest : JointHonest
unfolding joint_of tags_of
joint_honest m ps bs l k w f held = rw done (λ i. record { verdict = Ok tt; number = length ps; tags = tags i; metadata = m })
  where
    count : m.count ≡ length bs
    count = ap (λ (x : Side). x.rank) held ∙ metadata_count sha256 bs

    inside : within m.count ps ≡ true
    inside = ap (λ n. within n ps) count ∙ w

    opening : verdict_of (opening_rules m ps (joint_for ps bs)) ≡ Ok tt
    opening = rw (le-ltb 4096 m.count (omega (arith, count, l.count)), k, inside, joint_form bs l ps k w f)

    each : EveryRead m (joint_for ps bs) 0 ps
        × (tags_of (joint_for ps bs) (0 + length ps) ≡ tags_of (joint_for ps bs) 0 ++ tags_at ps bs)
    each = every_read m bs l held (joint_for ps bs) ps 0 w f (λ j h.
        let e : 0 + j ≡ j = omega arith in
        ap (proof_at (joint_for ps bs)) e ∙ respells ps bs l w f j h)

    done : (joint_of m ps (joint_for ps bs)).verdict ≡ Ok tt
    done = (accepted_exactly m ps (joint_for ps bs) opening).1 each.0

    tags : patch no_tags 0 (tags_of (joint_for ps bs) (length ps)) ≡ patch no_tags 0 (tags_at ps bs)
    tags =
        let e : length ps ≡ 0 + length ps = omega arith in
        ap (patch no_tags 0) (ap (tags_of (joint_for ps bs)) e ∙ each.1)
