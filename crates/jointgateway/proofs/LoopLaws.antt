-- The proofs looked at one after the other: what is left decides, and the tags so far are put.
-- Assumes nothing.
use Rattle.std.specs.Prelude.{Ok, Err}
use Prim.Native.Nat.{ℕ, suc, ◌+◌, ◌-◌, ◌*◌, ◌≤◌, ◌<◌}
use native.Mathlib.Omega.{arith}
use native.Mathlib.Numerals.{add-one}
use mathlib.Core.Path.{◌≡◌, refl, sym, ap, subst, ◌∙◌}
use mathlib.Core.List.{List, ◌∷◌}
use lib.ListN.{length, get_or, drop, length-append, drop_of_length-le, length-replicate}
use lib.Seq.{drop-cons}
use Rattle.octets.specs.Runs.{patch}
use Rattle.octets.proofs.PatchLaws.{patch_none, patch_next}
use Rattle.refusals.specs.declared.Which.TheVariants.{Place}
use Rattle.refusals.specs.Order.{Verdict, verdict_of}
use Rattle.skiplist.specs.Blocks.{shown}
use Rattle.labels.specs.declared.Side.{Side}
use Rattle.commands.specs.declared.Metadata.{Metadata}
use Rattle.proofbytes.specs.Reading.{place_of}
use Rattle.jointbytes.specs.declared.read.Piece.{Piece}
use Rattle.jointbytes.specs.Reading.{piece_of}
use Rattle.std.specs.Prelude.{Ok, Err}
use Rattle.refusals.specs.declared.Refusal.{Refusal}
use Rattle.gateway.specs.declared.examine.Fault.{Fault}
use Rattle.gateway.specs.Working.{finding_of, refusal_of, blamed}
use Rattle.gateway.proofs.Answers.{rules_refused, rules_done}
use Rattle.jointgateway.specs.Joint.{proof_at, place_rules, tags_of, no_tags}
use Rattle.jointgateway.specs.Working.{Spelled, Before, Kept}

-- before the i-th proof
pub record Going (s : List ℕ) (m : Metadata) (ps : List ℕ) (i : ℕ) (q : Piece) (t : Side) (w ts : List ℕ) : Type 0 where
  pub low : i ≤ length ps
  pub piece : q ≡ piece_of s (i - 1)
  pub work : Before w s i
  pub kept : i < length ps → Kept s m i t
  pub rules : verdict_of (place_rules s m i (drop i ps)) ≡ verdict_of (place_rules s m 0 ps)
  pub tags : ts ≡ patch no_tags 0 (tags_of s i)
  pub size : length (tags_of s i) ≡ 32 * i

pub going_start : (s : List ℕ) (m : Metadata) (ps : List ℕ) {q : Piece} (t : Side) {w tags : List ℕ} → q ≡ piece_of s 0 → length w ≡ 7677
    → tags ≡ no_tags → Going s m ps 0 q t w tags
unfolding tags_of
going_start s m ps t e n d =
    record {
      low = omega arith;
      piece = e;
      work = n;
      kept = λ _. tt;
      rules = refl;
      tags = d ∙ sym (patch_none no_tags 0);
      size = omega arith;
    }

module _ (s : List ℕ) (m : Metadata) (ps : List ℕ) (i : ℕ) {q : Piece} {t : Side} {w tags : List ℕ} (g : Going s m ps i q t w tags) where
  going_end : length ps ≤ i → Ok tt ≡ verdict_of (place_rules s m 0 ps)
  unfolding place_rules
  going_end l = sym (ap (λ x. verdict_of (place_rules s m i x)) (drop_of_length-le ps l)) ∙ g.rules

  pub all_done : length ps ≤ i
      → (Ok tt ≡ verdict_of (place_rules s m 0 ps)) × (◌≡◌ {A = Verdict} (Ok tt) (Ok tt) → tags ≡ patch no_tags 0 (tags_of s (length ps)))
  all_done l =
      let e : i ≡ length ps = omega (arith, l, g.low) in
      (going_end l, λ _. g.tags ∙ ap (λ x. patch no_tags 0 (tags_of s x)) e)

  module _ (l : i < length ps) where
    here : verdict_of (place_rules s m i (drop i ps)) ≡ verdict_of (place_rules s m i (get_or ps i 0 ∷ drop (suc i) ps))
    here = ap (λ x. verdict_of (place_rules s m i x)) (drop-cons ps i 0 l)

    pub one_refused : {x : Fault} {why : Refusal} → finding_of (proof_at s i) (get_or ps i 0) m ≡ Err x
        → why ≡ refusal_of (Place (i + 1)) x
        → (Err why ≡ verdict_of (place_rules s m 0 ps)) × (◌≡◌ {A = Verdict} (Err why) (Ok tt) → ⊥)
    unfolding place_rules
    one_refused {x} {why} e b = (
      sym (rules_refused (Place (suc i)) (proof_at s i) (get_or ps i 0) m (place_rules s m (suc i) (drop (suc i) ps))
          (ap (blamed (Place (suc i))) e ∙ ap Err (sym (b ∙ ap (λ n. refusal_of (Place n) x) (add-one i)))))
          ∙ sym here ∙ g.rules,
      λ c. let z : ◌≡◌ {A = ℕ} 0 1 = cc in omega arith,
    )

    pub one_more : {q' : Piece} (t' : Side) {w' tags' : List ℕ} → length ps ≤ 32
        → finding_of (proof_at s i) (get_or ps i 0) m ≡ Ok tt → q' ≡ piece_of s i → Spelled w' s i
        → tags' ≡ patch tags (32 * i) (shown (place_of (proof_at s i)).item) → length (shown (place_of (proof_at s i)).item) ≡ 32
        → (i + 1 < length ps → Kept s m (suc i) t') → Going s m ps (i + 1) q' t' w' tags'
    unfolding place_rules tags_of
    one_more t' few n p k d c o =
        let a : i ≡ i + 1 - 1 = omega arith in
        let T = shown (place_of (proof_at s i)).item in
        let z = length-replicate {A = ℕ} 1024 0 in
        let r = (rules_done (Place (suc i)) (proof_at s i) (get_or ps i 0) m (place_rules s m (suc i) (drop (suc i) ps))
        (ap (blamed (Place (suc i))) n)).0 in
        record {
          low = omega arith;
          piece = p ∙ ap (piece_of s) a;
          work = rw add-one k;
          kept = λ l. subst (λ x. Kept s m x t') (sym (add-one i)) (o l);
          rules = rw add-one (sym r ∙ sym here ∙ g.rules);
          tags = d ∙ rw (g.tags, add-one) (patch_next no_tags (tags_of s i) T 0 (32 * i) (omega (arith, g.size)) (omega (arith, z, few)));
          size = rw add-one (length-append (tags_of s i) T ∙ omega (arith, g.size, c, add-one i));
        }
