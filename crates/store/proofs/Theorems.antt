-- The store on the image of a row within the limits, with any spare bytes after it: check answers the row's count and
-- root label (`check_row`), prove writes the bytes of document 01's path (`prove_row`), apply leaves the edited row's
-- image (`apply_row`), and refuses with 14 exactly what comes again (`apply-again`).
-- Assumes nothing.
use Rattle.std.specs.Prelude.{Ok, Err}
use Prim.Native.Nat.{ℕ, zero, suc, ◌+◌, ◌-◌, ◌≤◌}
use native.Mathlib.Omega.{arith}
use mathlib.Core.Path.{◌≡◌, refl, sym, ap, ◌∙◌}
use mathlib.Core.Logic.{◌↔◌}
use mathlib.Core.Bool.{Bool, true, false, not}
use mathlib.Core.List.{List, [], ◌∷◌, ◌++◌}
use lib.Dec.{ltb}
use lib.ListN.{length, take, drop}
use borrow.Author.Tests.{le-ltb}
use Rattle.octets.specs.Runs.{patch}
use Rattle.refusals.specs.declared.Refusal.TheVariants.{BadImage, NoRoom, Repeated}
use Rattle.refusals.specs.Order.{◌when◌, verdict_of}
use Rattle.refusals.proofs.OrderLaws.{done-refused, append-done, behind}
use Rattle.sha256.specs.Hash.{sha256}
use Rattle.skiplist.specs.Limits.{most_blocks, digest_bytes}
use Rattle.skiplist.specs.Label.{labelled}
use Rattle.skiplist.specs.Blocks.{Block, AllSound, WithinLimits, way_to, metadata_of}
use Rattle.skiplist.specs.Commands.{InRange, retag, edited, repeats}
use Rattle.skiplist.proofs.Cases.{never}
use Rattle.skiplist.proofs.WayLaws.{metadata_count}
use Rattle.commands.specs.declared.Metadata.{Metadata}
use Rattle.commands.specs.declared.Operation.{Operation}
use Rattle.commands.specs.declared.Operation.TheVariants.{Read, Replace, Insert, Delete}
use Rattle.commands.specs.declared.Command.{Command}
use Rattle.commands.specs.Admission.{least_of, admission_rules, admitted_of}
use Rattle.commands.specs.Again.{Again}
use Rattle.commands.specs.Meaning.{order_of, meaning, metadata_of_side}
use Rattle.commands.proofs.RangeLaws.{admitted_range, range_admitted, again-repeats, repeats-again, not_again}
use Rattle.archive.specs.Form.{image_bytes, image_of}
use Rattle.archive.specs.Reading.{count_of, blocks_of, sound}
use Rattle.archive.specs.Writing.{spare_after}
use Rattle.archive.proofs.ImageLaws.{image-count, image_read, image-sound}
use Rattle.archive.proofs.EditLaws.{edited_image}
use Rattle.proofbytes.specs.Layout.{most_entries, proof_size}
use Rattle.proofbytes.specs.Writing.{proof_bytes}
use Rattle.store.specs.declared.Checked.{Checked}
use Rattle.store.specs.declared.Proved.{Proved}
use Rattle.store.specs.declared.Applied.{Applied}
use Rattle.store.specs.Answers.{check_verdict, check_of, path_at, prove_verdict, prove_of, buffer_after, row_after}
use Rattle.store.specs.Answers.{closing_rules, apply_verdict, apply_of, image_after}
use Rattle.store.specs.Passes.{count_after}
use Rattle.store.specs.Pledges.{Checks, Proves, Applies}
use Rattle.store.proofs.ApplyLaws.{verdict_is, edited-length}

-- ---- edits stay within the limits
sound_append : (xs ys : List Block) → AllSound xs → AllSound ys → AllSound (xs ++ ys)
sound_append [] ys a b = b
sound_append (x ∷ xs) ys a b = (a.0, a.1, sound_append xs ys a.2 b)

sound_take : (p : ℕ) (bs : List Block) → AllSound bs → AllSound (take p bs)
sound_take zero bs a = tt
sound_take (suc p) [] a = tt
sound_take (suc p) (b ∷ bs) a = (a.0, a.1, sound_take p bs a.2)

sound_drop : (p : ℕ) (bs : List Block) → AllSound bs → AllSound (drop p bs)
sound_drop zero bs a = a
sound_drop (suc p) [] a = tt
sound_drop (suc p) (b ∷ bs) a = sound_drop p bs a.2

sound_retag : (t : List ℕ) (bs : List Block) → length t ≡ digest_bytes → AllSound bs → AllSound (retag t bs)
sound_retag t [] e a = tt
sound_retag t (b ∷ bs) e a = (a.0, e, a.2)

least_position : (o : Operation) (p h : ℕ) (t : List ℕ) (n : ℕ) → InRange (order_of o p h t) n → (least_of o ≤ p)
    × (p ≤ n)
least_position Read p h t n r = (r.0, r.1)
least_position Replace p h t n r = (r.0, r.1)
least_position Insert p h t n r = (omega arith, r.0)
least_position Delete p h t n r = (r.0, r.1)

edited_sound : (o : Operation) (p h : ℕ) (t : List ℕ) (bs : List Block) → InRange (order_of o p h t) (length bs)
    → length t ≡ digest_bytes
    → AllSound bs → AllSound (edited (order_of o p h t) bs)
edited_sound Read p h t bs r e a = a
edited_sound Replace p h t bs r e a =
    sound_append (take (p - 1) bs) (retag t (drop (p - 1) bs)) (sound_take (p - 1) bs a)
    (sound_retag t (drop (p - 1) bs) e (sound_drop (p - 1) bs a))
edited_sound Insert p h t bs r e a =
    sound_append (take p bs) (record { height = h; tag = t } ∷ drop p bs) (sound_take p bs a)
    (r.1, e, sound_drop p bs a)
edited_sound Delete p h t bs r e a =
    sound_append (take (p - 1) bs) (drop p bs) (sound_take (p - 1) bs a) (sound_drop p bs a)

few_after : (o : Operation) (p h : ℕ) (t : List ℕ) (n : ℕ) → InRange (order_of o p h t) n → n ≤ most_blocks
    → count_after o n ≤ most_blocks
few_after Read p h t n r l = l
few_after Replace p h t n r l = l
few_after Insert p h t n r l = omega (arith, r.2)
few_after Delete p h t n r l = omega arith

-- A COMMAND IN RANGE KEEPS A ROW WITHIN THE LIMITS
pub edited-within : (k : Command) (bs : List Block) → WithinLimits bs → InRange (meaning k) (length bs)
    → length k.tag ≡ digest_bytes
    → WithinLimits (edited (meaning k) bs)
edited-within k bs w r e =
    let q = least_position k.operation k.position k.height k.tag (length bs) r in
    record {
      sound = edited_sound k.operation k.position k.height k.tag bs r e w.sound;
      count = rw (edited-length k.operation k.position k.height k.tag bs q.0 q.1)
          (few_after k.operation k.position k.height k.tag (length bs) r w.count);
    }

module _ (bs : List Block) (w : WithinLimits bs) (s : List ℕ) where
  -- CHECK answers the row's count and root label
  pub check_row : (r : Checked) → Checks (image_of bs ++ s) r
      → (r.verdict ≡ Ok tt) × (r.metadata.count ≡ length bs) × (r.metadata.label ≡ (metadata_of sha256 bs).label)
  unfolding check_of check_verdict
  check_row r c =
      let v : check_verdict (image_of bs ++ s) ≡ Ok tt = rw (image-sound bs w s) in
      let m : r.metadata ≡ metadata_of_side (metadata_of sha256 bs) = c.metadata
      ∙ rw (image-sound bs w s, image_read bs w s) in
      (c.verdict ∙ v, ap (λ (y : Metadata). y.count) m ∙ metadata_count sha256 bs, ap (λ (y : Metadata). y.label) m)

  -- PROVE writes the bytes of document 01's path, k its number of entries
  pub prove_row : (p : ℕ) (lent : List ℕ) (at : ℕ) (r : Proved) (after : List ℕ) → p ≤ length bs
      → length (way_to p bs).entries ≤ most_entries → at + proof_size (length (way_to p bs).entries) ≤ length lent
      → Proves (image_of bs ++ s) p lent at r after
      → (r.verdict ≡ Ok tt) × (r.length ≡ proof_size (length (way_to p bs).entries))
      × (r.entries ≡ length (way_to p bs).entries)
      × (after ≡ patch lent at (proof_bytes (labelled sha256 (way_to p bs))))
  unfolding prove_of prove_verdict path_at buffer_after
  prove_row p lent at r after in_row few fits c =
      let v : prove_verdict (image_of bs ++ s) p (length lent) at ≡ Ok tt =
      rw (
        image-sound bs w s,
        image_read bs w s,
        image-count bs w s,
        le-ltb (length bs) p in_row,
        le-ltb most_entries (length (way_to p bs).entries) few,
        le-ltb (length lent) (at + proof_size (length (way_to p bs).entries)) fits,
      ) in (
        c.verdict ∙ v,
        c.bytes ∙ rw (v, image_read bs w s),
        c.entries ∙ rw (v, image_read bs w s),
        c.buffer ∙ rw (v, image_read bs w s),
      )

  in_range-admitted : (k : Command) → InRange (meaning k) (length bs) → Ok tt ≡ admitted_of k (count_of (image_of bs ++ s))
  unfolding admitted_of
  in_range-admitted k r =
      rw (image-count bs w s)
      (sym (range_admitted k.operation k.position k.height k.tag (length bs) r))

  -- APPLY leaves the edited row's image, and its spare bytes are as document 01 says
  pub apply_row : (k : Command) (r : Applied) (after : List ℕ) → InRange (meaning k) (length bs) → length k.tag
      ≡ digest_bytes → (Again bs k → ⊥)
      → image_bytes (length (edited (meaning k) bs)) ≤ length (image_of bs ++ s) → Applies (image_of bs ++ s) k r after
      → (r.verdict ≡ Ok tt) × (r.count ≡ length (edited (meaning k) bs))
      × (after ≡ image_of (edited (meaning k) bs) ++ spare_after (length bs) (length (edited (meaning k) bs)) s)
  unfolding apply_of image_after
  apply_row k r after in_range tag fresh fits c =
      let b = image_of bs ++ s in
      let v : apply_verdict b k ≡ Ok tt =
      verdict_is b k (image-sound bs w s) (Ok tt) (in_range-admitted k in_range)
      ∙ rw (image_read bs w s, not_again bs k in_range fresh, le-ltb (length b) (image_bytes (length (edited (meaning k) bs))) fits) in (
        c.verdict ∙ v,
        c.count ∙ rw (v, image_read bs w s),
        c.image ∙ rw (v, image_read bs w s) (edited_image bs (edited (meaning k) bs) s w
            (edited-within k bs w in_range tag)),
      )

  -- 14 EXACTLY FOR WHAT COMES AGAIN
  again_only : (k : Command) → apply_verdict (image_of bs ++ s) k ≡ Err Repeated → Again bs k
  unfolding apply_verdict
  again_only k e =
      let b = image_of bs ++ s in
      let x = behind Repeated ((BadImage when not (sound b)) ∷ admission_rules k (count_of b)) (closing_rules b k)
      (λ q. omega (arith, q), (λ q. omega (arith, q), (λ q. omega (arith, q), (λ q. omega (arith, q), tt)))) e in
      let a = (append-done ((BadImage when not (sound b)) ∷ []) (admission_rules k (count_of b)) x.0).1 in
      repeats-again bs k (admitted_range k (length bs) w.count (rw (image-count bs w s) at a))
      (rw (image_read bs w s) at (repeated (repeats (meaning k) (blocks_of b))
      (ltb (length b) (image_bytes (length (row_after b k)))) x.1))
    where
      repeated : (x y : Bool) → verdict_of ((Repeated when x) ∷ (NoRoom when y) ∷ []) ≡ Err Repeated → x ≡ true
      repeated true y f = refl
      repeated false true f = never cc
      repeated false false f = done-refused f

  again_given : (k : Command) → Again bs k → apply_verdict (image_of bs ++ s) k ≡ Err Repeated
  again_given k a =
      let r = again-repeats bs k a in
      verdict_is (image_of bs ++ s) k (image-sound bs w s) (Ok tt) (in_range-admitted k r.0) ∙ rw (image_read bs w s, r.1)

  pub apply-again : (k : Command) → ((apply_of (image_of bs ++ s) k).verdict ≡ Err Repeated) ↔ Again bs k
  unfolding apply_of
  apply-again k = (again_only k, again_given k)
