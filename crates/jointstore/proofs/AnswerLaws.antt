-- What a joint proof is answered with: what a plan that refuses nothing says, and that the joint proof is then written.
-- Assumes nothing.
use Rattle.std.specs.Prelude.{is_ok}
use Prim.Native.Nat.{ℕ, ◌+◌, ◌≤◌}
use mathlib.Core.Path.{◌≡◌, sym, ap, ◌∙◌}
use mathlib.Core.Bool.{true, false}
use mathlib.Core.List.{List}
use lib.ListN.{length}
use borrow.Author.Tests.{ltb-false, not-false}
use Rattle.octets.specs.Runs.{patch}
use Rattle.refusals.proofs.OrderLaws.{done-none, done_settled, refused-settled}
use Rattle.archive.specs.Reading.{count_of, sound}
use Rattle.jointbytes.specs.Positions.{is_set, within}
use Rattle.store.specs.declared.Proved.{Proved}
use Rattle.refusals.proofs.OrderLaws.{done_is}
use Rattle.jointstore.specs.Answers.{joint_at, all_shallow, joint_rules, joint_verdict, joint_of, buffer_after}
use Rattle.jointstore.specs.Pledges.{Proves}

module _ (b ps : List ℕ) (room at : ℕ) where
  -- what a plan that refuses nothing says
  pub record Planned : Type 0 where
    pub good : sound b ≡ true
    pub set : is_set ps ≡ true
    pub inside : within (count_of b) ps ≡ true
    pub shallow : all_shallow b ps ≡ true
    pub fits : at + length (joint_at b ps) ≤ room
    pub size : (joint_of b ps room at).length ≡ length (joint_at b ps)

  pub planned : (t : Proved) → t ≡ joint_of b ps room at → is_ok t.verdict ≡ true → Planned
  unfolding joint_of joint_verdict
  planned t e d =
      let v = done_is (joint_verdict b ps room at) (sym (ap (λ (q : Proved). is_ok q.verdict) e) ∙ d) in
      let n = done-none (joint_rules b ps room at) v in
      record {
        good = not-false (sound b) n.0;
        set = not-false (is_set ps) n.1.0;
        inside = not-false (within (count_of b) ps) n.1.1.0;
        shallow = not-false (all_shallow b ps) n.1.1.1.0;
        fits = ltb-false room (at + length (joint_at b ps)) n.1.1.1.1.0;
        size = rw v;
      }

-- ---- the pledge
module _ (b ps lent : List ℕ) (at : ℕ) (t : Proved) (e : t ≡ joint_of b ps (length lent) at) where
  answers : (after : List ℕ) → after ≡ buffer_after b ps lent at → Proves b ps lent at t after
  unfolding joint_of
  answers after ea = record {
    verdict = ap (λ (q : Proved). q.verdict) e;
    bytes = ap (λ (q : Proved). q.length) e;
    entries = ap (λ (q : Proved). q.entries) e;
    buffer = ea;
  }

  pub prove_done : is_ok t.verdict ≡ true → (after : List ℕ) → after ≡ patch lent at (joint_at b ps)
      → Proves b ps lent at t after
  unfolding joint_of buffer_after
  prove_done d after ea =
      answers after (ea ∙ sym (done_settled (joint_verdict b ps (length lent) at) (patch lent at (joint_at b ps)) lent
      (sym (ap (λ (q : Proved). is_ok q.verdict) e) ∙ d)))

  pub prove_refused : is_ok t.verdict ≡ false → Proves b ps lent at t lent
  unfolding joint_of buffer_after
  prove_refused d =
      answers lent (sym (refused-settled (joint_verdict b ps (length lent) at) (patch lent at (joint_at b ps)) lent
      (sym (ap (λ (q : Proved). is_ok q.verdict) e) ∙ d)))
