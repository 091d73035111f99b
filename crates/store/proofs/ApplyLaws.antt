-- What apply answers: each return of the plan is the first refusal that is due, or none is; and where none is, the
-- command's edit of records leaves the edited row's image.
-- Assumes nothing.
use Rattle.std.specs.Prelude.{Ok, Err, is_ok}
use Prim.Native.Nat.{ℕ, ◌+◌, ◌-◌, ◌≤◌, ◌<◌}
use native.Mathlib.Omega.{arith}
use mathlib.Core.Path.{◌≡◌, refl, sym, ap, ◌∙◌}
use mathlib.Core.Logic.{◌⊎◌, inl, inr}
use mathlib.Core.Bool.{true, false}
use mathlib.Core.List.{List, [], ◌∷◌}
use lib.ListN.{length, take, drop, length-append, length-drop}
use lib.Seq.{length-take-le}
use borrow.Author.Tests.{lt-ltb, le-ltb, ltb-false, not-false}
use Rattle.refusals.specs.declared.Refusal.TheVariants.{BadImage, NoRoom, Repeated}
use Rattle.refusals.specs.Order.{verdict_of, settled, Verdict}
use Rattle.refusals.proofs.OrderLaws.{done_is, done-none, done_settled, refused-settled, verdict_then}
use Rattle.skiplist.specs.Limits.{most_blocks}
use Rattle.skiplist.specs.Blocks.{Block}
use Rattle.skiplist.specs.Commands.{retag, edited, repeats}
use Rattle.skiplist.proofs.Cases.{order, never}
use Rattle.commands.specs.declared.Operation.{Operation}
use Rattle.commands.specs.declared.Operation.TheVariants.{Read, Replace, Insert, Delete}
use Rattle.commands.specs.declared.Command.{Command}
use Rattle.commands.specs.Admission.{least_of, inserts_of, admission_rules, admitted_of}
use Rattle.commands.specs.Meaning.{order_of, meaning}
use Rattle.commands.proofs.RangeLaws.{Admitted, admitted_is}
use Rattle.archive.specs.Form.{image_bytes}
use Rattle.archive.specs.Reading.{count_of, blocks_of, sound}
use Rattle.archive.specs.Writing.{rewritten}
use Rattle.archive.proofs.SoundLaws.{sound_is}
use Rattle.archive.proofs.RecordLaws.{length-blocks}
use Rattle.store.specs.declared.Applied.{Applied}
use Rattle.store.specs.Answers.{row_after, closing_rules, apply_rules, apply_verdict, apply_of, image_after}
use Rattle.store.specs.Passes.{refused_edit, count_after}
use Rattle.store.specs.Pledges.{Applies}

-- ---- what an admission that is done says
pub admission_is : (k : Command) (n : ℕ) (v : Verdict) → v ≡ admitted_of k n → is_ok v ≡ true → Admitted k n
unfolding admitted_of
admission_is k n v e d = admitted_is k n (sym e ∙ done_is v d)

-- ---- the new count
retag-length : (t : List ℕ) (bs : List Block) → length (retag t bs) ≡ length bs
retag-length t [] = refl
retag-length t (b ∷ bs) = refl

pub edited-length : (o : Operation) (p h : ℕ) (t : List ℕ) (bs : List Block) → least_of o ≤ p → p ≤ length bs
    → length (edited (order_of o p h t) bs) ≡ count_after o (length bs)
edited-length Read p h t bs a l = refl
edited-length Replace p h t bs a l =
    length-append (take (p - 1) bs) (retag t (drop (p - 1) bs))
    ∙ omega (arith, length-take-le (p - 1) bs (omega arith), retag-length t (drop (p - 1) bs), length-drop (p - 1) bs)
edited-length Insert p h t bs a l =
    length-append (take p bs) (record { height = h; tag = t } ∷ drop p bs)
    ∙ omega (arith, length-take-le p bs l, length-drop p bs)
edited-length Delete p h t bs a l =
    length-append (take (p - 1) bs) (drop p bs) ∙ omega (
      arith,
      length-take-le (p - 1) bs (omega arith),
      length-drop p
          bs,
    )

-- ---- the plan
module _ (b : List ℕ) (k : Command) where
  pub edit_bad_image : sound b ≡ false → refused_edit (Err BadImage) ≡ apply_of b k
  unfolding apply_of apply_verdict
  edit_bad_image s = rw s

  module _ (s : sound b ≡ true) (v : Verdict) (ev : v ≡ admitted_of k (count_of b)) where
    pub verdict_is : apply_verdict b k ≡ settled v (verdict_of (closing_rules b k)) v
    unfolding apply_verdict admitted_of
    verdict_is = rw (s, ev) (verdict_then (admission_rules k (count_of b)) (closing_rules b k))

    pub edit_not_admitted : is_ok v ≡ false → refused_edit v ≡ apply_of b k
    unfolding apply_of
    edit_not_admitted d = rw verdict_is (go v d)
      where
        go : (w : Verdict) → is_ok w ≡ false
            → refused_edit w ≡ (let z = settled w (verdict_of (closing_rules b k)) w in
            record { verdict = z; count = settled z (length (row_after b k)) 0 })
        go (Ok tt) e = never cc
        go (Err r) e = refl

    pub edit_repeated : is_ok v ≡ true → repeats (meaning k) (blocks_of b) ≡ true
        → refused_edit (Err Repeated) ≡ apply_of b k
    unfolding apply_of
    edit_repeated d e = rw (verdict_is, done_is v d, e)

    module _ (d : is_ok v ≡ true) (fresh : repeats (meaning k) (blocks_of b) ≡ false) (m : ℕ)
        (em : m ≡ count_after k.operation (count_of b)) where
      admission : Admitted k (count_of b)
      admission = admission_is k (count_of b) v ev d

      pub count_is : m ≡ length (row_after b k)
      count_is =
          let l : length (blocks_of b) ≡ count_of b = length-blocks b 0 (count_of b) in
          em
          ∙ sym (edited-length k.operation k.position k.height k.tag (blocks_of b) admission.least
          (rw l admission.within)
          ∙ rw l)

      pub edit_no_room : length b < image_bytes m → refused_edit (Err NoRoom) ≡ apply_of b k
      unfolding apply_of
      edit_no_room h = rw (
        verdict_is,
        done_is v d,
        fresh,
        lt-ltb (length b) (image_bytes (length (row_after b k)))
            (rw count_is at h),
      )

      pub edit_planned : image_bytes m ≤ length b → ◌≡◌ {A = Applied} (record { verdict = Ok tt; count = m })
          (apply_of b k)
      unfolding apply_of
      edit_planned h =
          rw (
            verdict_is,
            done_is v d,
            fresh,
            le-ltb (length b) (image_bytes (length (row_after b k))) (rw count_is at h),
            count_is,
          )

  -- what a plan that refuses nothing says
  pub record Editable : Type 0 where
    pub good : sound b ≡ true
    pub admitted : Admitted k (count_of b)
    pub room : image_bytes (length (row_after b k)) ≤ length b

  pub editable : apply_verdict b k ≡ Ok tt → Editable
  unfolding apply_verdict admitted_of
  editable e =
      let n = done-none (apply_rules b k) e in
      let s = not-false (sound b) n.0 in
      let a = split (admitted_of k (count_of b)) (sym (verdict_is s (admitted_of k (count_of b)) refl) ∙ e) in
      record {
        good = s;
        admitted = admission_is k (count_of b) (admitted_of k (count_of b)) refl a.0;
        room = ltb-false (length b) (image_bytes (length (row_after b k)))
            (done-none (closing_rules b k) a.1).1.0;
      }
    where
      split : (w : Verdict) → settled w (verdict_of (closing_rules b k)) w ≡ Ok tt
          → (is_ok w ≡ true) × (verdict_of (closing_rules b k) ≡ Ok tt)
      split (Ok tt) f = (refl, f)
      split (Err r) f = never cc

pub ruleset planning = (admission_is, verdict_is, edit_repeated, edit_no_room, edit_planned)

-- Insert's room, in the row and in the buffer
pub insert_ready : (b : List ℕ) (k : Command) → Editable b k → k.operation ≡ Insert
    → (count_of b < most_blocks) × (image_bytes (count_of b + 1) ≤ length b)
insert_ready b k a e =
    let n = count_of b in
    let l : length (blocks_of b) ≡ n = length-blocks b 0 n in
    let m : length (row_after b k) ≡ count_after k.operation n =
    edited-length k.operation k.position k.height k.tag (blocks_of b) a.admitted.least
    (rw l a.admitted.within) ∙ rw l in
    let i : inserts_of k.operation ≡ true = rw e in
    (below (order n most_blocks) (a.admitted.space i), rw (m, e) at a.room)
  where
    below : (count_of b < most_blocks) ⊎ (most_blocks ≤ count_of b) → (count_of b ≡ most_blocks → ⊥) → count_of b < most_blocks
    below (inl h) f = h
    below (inr h) f = absurd (f (omega (arith, (sound_is b a.good).frame.few)))

pub planned_edit : (b : List ℕ) (k : Command) (t : Applied) → t ≡ apply_of b k → is_ok t.verdict ≡ true
    → apply_verdict b k ≡ Ok tt
unfolding apply_of
planned_edit b k t e d = done_is (apply_verdict b k) (sym (ap (λ (q : Applied). is_ok q.verdict) e) ∙ d)

-- ---- the pledge
pub apply_done : (b : List ℕ) (k : Command) (t : Applied) (after : List ℕ) → t ≡ apply_of b k → is_ok t.verdict
    ≡ true
    → after ≡ rewritten b (row_after b k) → Applies b k t after
unfolding apply_of image_after
apply_done b k t after e d ea =
    record {
      verdict = ap (λ (q : Applied). q.verdict) e;
      count = ap (λ (q : Applied). q.count) e;
      image = ea
          ∙ sym (done_settled (apply_verdict b k) (rewritten b (row_after b k)) b
          (sym (ap (λ (q : Applied). is_ok q.verdict) e) ∙ d));
    }

pub apply_refused : (b : List ℕ) (k : Command) (t : Applied) → t ≡ apply_of b k → is_ok t.verdict ≡ false
    → Applies b k t b
unfolding apply_of image_after
apply_refused b k t e d =
    record {
      verdict = ap (λ (q : Applied). q.verdict) e;
      count = ap (λ (q : Applied). q.count) e;
      image = sym (refused-settled (apply_verdict b k) (rewritten b (row_after b k)) b
          (sym (ap (λ (q : Applied). is_ok q.verdict) e) ∙ d));
    }
