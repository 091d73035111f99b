-- The answer in parts, in the order of the refusals.
-- Assumes nothing.
use Rattle.std.specs.Prelude.{Ok, Err}
use Prim.Native.Nat.{ℕ, ◌≤◌, ◌<◌}
use mathlib.Core.Path.{◌≡◌, refl, sym, ap, ◌∙◌}
use mathlib.Core.Bool.{true, false}
use mathlib.Core.List.{List}
use lib.ListN.{length}
use borrow.Author.Tests.{lt-ltb, le-ltb}
use Rattle.refusals.specs.declared.Which.TheVariants.{Place}
use Rattle.refusals.specs.declared.Refusal.{Refusal}
use Rattle.refusals.specs.declared.Refusal.TheVariants.{BadMetadata, BadSet, BadPosition, BadProof}
use Rattle.refusals.specs.Order.{verdict_of, Verdict}
use Rattle.octets.specs.Runs.{patch}
use Rattle.commands.specs.declared.Metadata.{Metadata}
use Rattle.jointbytes.specs.Positions.{is_set, within}
use Rattle.jointbytes.specs.Form.{joint_fits}
use Rattle.jointgateway.specs.declared.Answer.{Answer}
use Rattle.jointgateway.specs.Joint.{place_rules, tags_of, no_tags, joint_of, Checks}
use Rattle.jointgateway.specs.Working.{refused_of, answer_with, proved_of}

pub pledged : (m : Metadata) (ps s : List ℕ) {r : Answer} → r ≡ joint_of m ps s → Checks m ps s r
pledged m ps s e = record {
  verdict = ap (λ x. x.verdict) e;
  number = ap (λ x. x.number) e;
  tags = ap (λ x. x.tags) e;
  metadata = ap (λ x. x.metadata) e;
}

pub check_is : (m : Metadata) (ps s : List ℕ) {r : Answer} → Checks m ps s r → r ≡ joint_of m ps s
check_is m ps s p = λ i. record { verdict = p.verdict i; number = p.number i; tags = p.tags i; metadata = p.metadata i }

-- two answers that meet the pledge are equal
pub check_unique : (m : Metadata) (ps s : List ℕ) (r t : Answer) → Checks m ps s r → Checks m ps s t → r ≡ t
check_unique m ps s r t p q = check_is m ps s p ∙ sym (check_is m ps s q)

module _ (m : Metadata) (ps s : List ℕ) where
  pub proved-refused : {v : Verdict} {why : Refusal} → v ≡ verdict_of (place_rules s m 0 ps) → v ≡ Err why
      → refused_of m why ≡ proved_of m ps s
  unfolding proved_of
  proved-refused e f = sym (rw (sym e ∙ f))

  pub proved-done : {v : Verdict} {ts : List ℕ} → v ≡ verdict_of (place_rules s m 0 ps) → v ≡ Ok tt
      → ts ≡ patch no_tags 0 (tags_of s (length ps))
      → record { verdict = Ok tt; number = length ps; tags = ts; metadata = m } ≡ proved_of m ps s
  unfolding proved_of
  proved-done e f t = rw t (sym (rw (sym e ∙ f)))

  -- the verdict of the proofs, with the tags that they put
  pub proved-handed : (v : Verdict) {ts : List ℕ} → v ≡ verdict_of (place_rules s m 0 ps)
      → (v ≡ Ok tt → ts ≡ patch no_tags 0 (tags_of s (length ps))) → answer_with m (length ps) ts v ≡ proved_of m ps s
  proved-handed (Ok tt) e t = proved-done e refl (t refl)
  proved-handed (Err why) e t = proved-refused e refl

  pub no_metadata : 4096 < m.count → refused_of m BadMetadata ≡ joint_of m ps s
  unfolding joint_of
  no_metadata l = sym (rw (lt-ltb 4096 m.count l))

  module _ (l : m.count ≤ 4096) where
    pub no_set : is_set ps ≡ false → refused_of m BadSet ≡ joint_of m ps s
    unfolding joint_of
    no_set e = sym (rw (le-ltb 4096 m.count l, e))

    module _ (a : is_set ps ≡ true) where
      pub no_position : within m.count ps ≡ false → refused_of m BadPosition ≡ joint_of m ps s
      unfolding joint_of
      no_position e = sym (rw (le-ltb 4096 m.count l, a, e))

      module _ (b : within m.count ps ≡ true) where
        pub no_form : joint_fits (length ps) s ≡ false → refused_of m (BadProof (Place 0)) ≡ joint_of m ps s
        unfolding joint_of
        no_form e = sym (rw (le-ltb 4096 m.count l, a, b, e))

        pub in_form : joint_fits (length ps) s ≡ true → proved_of m ps s ≡ joint_of m ps s
        unfolding joint_of proved_of
        in_form e = sym (rw (le-ltb 4096 m.count l, a, b, e))
