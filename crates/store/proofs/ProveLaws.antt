-- What prove answers: each return of the plan is the first refusal that is due, or none is; and where none is, the path
-- is written.
-- Assumes nothing.
use native.Mathlib.Omega.{arith}
use Rattle.std.specs.Prelude.{Ok, is_ok}
use Prim.Native.Nat.{ℕ, ◌+◌, ◌≤◌, ◌<◌}
use mathlib.Core.Path.{◌≡◌, sym, ap, ◌∙◌}
use mathlib.Core.Bool.{true, false}
use mathlib.Core.List.{List}
use lib.Dec.{leb}
use lib.ListN.{length}
use borrow.Author.Tests.{lt-ltb, le-ltb, leb-true, leb-false, ltb-false, not-false}
use Rattle.octets.specs.Runs.{patch}
use Rattle.refusals.specs.declared.Refusal.TheVariants.{BadImage, BadPosition, TooDeep, NoRoom}
use Rattle.refusals.proofs.OrderLaws.{done_is, done-none, done_settled, refused-settled}
use Rattle.archive.specs.declared.Layout.{Layout}
use Rattle.archive.specs.Reading.{layout_of, count_of, sound}
use Rattle.proofbytes.specs.Layout.{most_entries, proof_size}
use Rattle.store.specs.declared.Proved.{Proved}
use Rattle.store.specs.Answers.{entries_at, proof_at, prove_rules, prove_verdict, prove_of, buffer_after}
use Rattle.store.specs.Passes.{refused_proof}
use Rattle.store.specs.Pledges.{Proves}

module _ (b : List ℕ) (p room at : ℕ) where
  pub image_refused : sound b ≡ false → refused_proof BadImage ≡ prove_of b p room at
  unfolding prove_of prove_verdict
  image_refused s = rw s

  module _ (s : sound b ≡ true) where
    pub position_refused : count_of b < p → refused_proof BadPosition ≡ prove_of b p room at
    unfolding prove_of prove_verdict
    position_refused h = rw (s, lt-ltb (count_of b) p h)

    module _ (in_row : p ≤ count_of b) (k : ℕ) (ek : k ≡ entries_at b p) where
      pub deep_refused : most_entries < k → refused_proof TooDeep ≡ prove_of b p room at
      unfolding prove_of prove_verdict
      deep_refused h = rw (s, le-ltb (count_of b) p in_row, lt-ltb most_entries (entries_at b p) (rw ek at h))

      module _ (few : k ≤ most_entries) where
        pub room-refused : leb (at + proof_size k) room ≡ false → refused_proof NoRoom ≡ prove_of b p room at
        unfolding prove_of prove_verdict
        room-refused h =
            rw (
              s,
              le-ltb (count_of b) p in_row,
              le-ltb most_entries (entries_at b p) (rw ek at few),
              lt-ltb room (at + proof_size (entries_at b p)) (leb-false (at + proof_size (entries_at b p)) room
                  (rw ek at h)),
            )

        pub proof_planned : leb (at + proof_size k) room ≡ true
            → ◌≡◌ {A = Proved} (record { verdict = Ok tt; length = proof_size k; entries = k }) (prove_of b p room at)
        unfolding prove_of prove_verdict
        proof_planned h =
            rw (
              s,
              le-ltb (count_of b) p in_row,
              le-ltb most_entries (entries_at b p) (rw ek at few),
              le-ltb room (at + proof_size (entries_at b p)) (leb-true (at + proof_size (entries_at b p)) room
                  (rw ek at h)),
              ek,
            )

  -- what a plan that refuses nothing says
  pub record Planned : Type 0 where
    pub good : sound b ≡ true
    pub in_row : p ≤ count_of b
    pub few : entries_at b p ≤ most_entries
    pub fits : at + proof_size (entries_at b p) ≤ room
    pub entries : (prove_of b p room at).entries ≡ entries_at b p

  pub planned : (t : Proved) → t ≡ prove_of b p room at → is_ok t.verdict ≡ true → Planned
  unfolding prove_of prove_verdict
  planned t e d =
      let v = done_is (prove_verdict b p room at) (sym (ap (λ (q : Proved). is_ok q.verdict) e) ∙ d) in
      let n = done-none (prove_rules b p room at) v in
      record {
        good = not-false (sound b) n.0;
        in_row = ltb-false (count_of b) p n.1.0;
        few = ltb-false most_entries (entries_at b p) n.1.1.0;
        fits = ltb-false room (at + proof_size (entries_at b p)) n.1.1.1.0;
        entries = rw v;
      }

-- a position past the end, by the count of the layout that the plan reads
pub past_the_end : (b : List ℕ) (p room at : ℕ) (x : Layout) → sound b ≡ true → x ≡ layout_of b → x.count < p
    → refused_proof BadPosition ≡ prove_of b p room at
past_the_end b p room at x s e h =
    position_refused b p room at s (omega (arith, h, ap (λ (y : Layout). y.count) e))

-- ---- the pledge
pub prove_done : (b : List ℕ) (p : ℕ) (lent : List ℕ) (at : ℕ) (t : Proved) (after : List ℕ) → t
    ≡ prove_of b p (length lent) at
    → is_ok t.verdict ≡ true → after ≡ patch lent at (proof_at b p) → Proves b p lent at t after
unfolding prove_of buffer_after
prove_done b p lent at t after e d ea =
    record {
      verdict = ap (λ (q : Proved). q.verdict) e;
      bytes = ap (λ (q : Proved). q.length) e;
      entries = ap (λ (q : Proved). q.entries) e;
      buffer = ea
          ∙ sym (done_settled (prove_verdict b p (length lent) at) (patch lent at (proof_at b p)) lent
          (sym (ap (λ (q : Proved). is_ok q.verdict) e) ∙ d));
    }

pub prove_refused : (b : List ℕ) (p : ℕ) (lent : List ℕ) (at : ℕ) (t : Proved) → t ≡ prove_of b p (length lent) at
    → is_ok t.verdict ≡ false → Proves b p lent at t lent
unfolding prove_of buffer_after
prove_refused b p lent at t e d =
    record {
      verdict = ap (λ (q : Proved). q.verdict) e;
      bytes = ap (λ (q : Proved). q.length) e;
      entries = ap (λ (q : Proved). q.entries) e;
      buffer = sym (refused-settled (prove_verdict b p (length lent) at) (patch lent at (proof_at b p)) lent
          (sym (ap (λ (q : Proved). is_ok q.verdict) e) ∙ d));
    }
