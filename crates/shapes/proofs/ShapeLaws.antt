-- The numbers that the passes leave are those of document 01's ways, and the three answers of `shape`.
-- Assumes nothing.
use Rattle.std.specs.Prelude.{Ok, Err}
use Prim.Native.Nat.{ℕ, zero, suc, ◌+◌, ◌≤◌, ◌<◌}
use native.Mathlib.Omega.{arith}
use native.Mathlib.Nat.{zero-add, add-zero}
use mathlib.Core.Path.{◌≡◌, refl, sym, ap, ◌∙◌}
use mathlib.Core.Bool.{true, false}
use mathlib.Core.List.{List, [], ◌∷◌, ◌++◌}
use lib.ListN.{length}
use borrow.Author.Tests.{lt-ltb, le-ltb}
use Rattle.octets.specs.Runs.{patch}
use Rattle.octets.proofs.PatchLaws.{length-patch, patch_over}
use Rattle.refusals.specs.declared.Refusal.TheVariants.{BadImage, NoRoom}
use Rattle.skiplist.specs.Length.{entry_count}
use Rattle.skiplist.specs.Blocks.{Block, row}
use Rattle.skiplist.proofs.Theorems.{way-length}
use Rattle.archive.specs.Reading.{count_of, blocks_from, blocks_of, sound}
use Rattle.archive.proofs.RecordLaws.{length-blocks, take-blocks, drop-blocks}
use Rattle.archive.proofs.SoundLaws.{sound_is}
use Rattle.archive.proofs.ImageLaws.{sound_row}
use Rattle.shapes.specs.declared.Shaped.{Shaped}
use Rattle.shapes.specs.Shape.{entries_of, entries_from, shape_of, shape_after, Shapes}
use Rattle.shapes.specs.Counters.{downs_of, entries_up_to, columns_from}
use Rattle.shapes.proofs.PassLaws.{length-downs}
use Rattle.shapes.proofs.RowPass.{length-columns, length_upto}

entries-snoc : (bs : List Block) (p k : ℕ)
    → entries_from bs p (suc k) ≡ entries_from bs p k ++ (entries_of bs (suc (p + k)) ∷ [])
unfolding entries_from
entries-snoc bs p zero = rw (add-zero p)
entries-snoc bs p (suc k) =
    let e : suc p + k ≡ p + suc k = omega arith in
    ap (λ (xs : List ℕ). entries_of bs (suc p) ∷ xs) (entries-snoc bs (suc p) k ∙ rw e)

module _ (b : List ℕ) (s : sound b ≡ true) where
  -- one block's number
  entry_is : (i : ℕ) → i < count_of b
      → entry_count (row (blocks_from b 0 (suc i))) (columns_from b (suc i)) ≡ entries_of (blocks_of b) (suc i)
  entry_is i h =
      let t = take-blocks b 0 (suc i) (count_of b) (omega arith) in
      let d = drop-blocks b 0 (suc i) (count_of b) (omega arith) in
      let z : 0 + suc i ≡ suc i = omega arith in
      sym (way-length (suc i) (blocks_of b) (sound_row b (sound_is b s)).sound
      (omega (arith, length-blocks b 0 (count_of b))) ∙ rw (t, d, z))

  pub entries_are : (i : ℕ) → i ≤ count_of b → entries_up_to b i ≡ entries_from (blocks_of b) 0 i
  unfolding entries_up_to entries_from
  entries_are zero h = refl
  entries_are (suc i) h =
      rw (entries_are i (omega arith), entry_is i (omega arith))
      (sym (entries-snoc (blocks_of b) 0 i ∙ rw (zero-add i)))

  pub done : (out after : List ℕ) (n : ℕ) → n ≡ count_of b → n ≤ length out → after ≡ patch out 0 (entries_up_to b (count_of b))
      → Shapes b out (record { verdict = Ok tt; blocks = n }) after
  unfolding shape_of shape_after
  done out after n en h e =
      let r = le-ltb (length out) (count_of b) (omega arith) in
      record {
        verdict = rw (s, r);
        blocks = rw (s, r) en;
        entries = rw (s, r) (e ∙ rw (entries_are (count_of b) (omega arith)));
      }

  pub no_room : (out : List ℕ) → length out < count_of b
      → Shapes b out (record { verdict = Err NoRoom; blocks = 0 }) out
  unfolding shape_of shape_after
  no_room out h =
      let r = lt-ltb (length out) (count_of b) h in
      record { verdict = rw (s, r); blocks = rw (s, r); entries = rw (s, r) }

pub bad_image : (b out : List ℕ) → sound b ≡ false → Shapes b out (record { verdict = Err BadImage; blocks = 0 }) out
unfolding shape_of shape_after
bad_image b out s = record { verdict = rw s; blocks = rw s; entries = rw s }

-- two outcomes of the pledge are equal
pub shape_unique : (b out : List ℕ) (r q : Shaped) (x y : List ℕ) → Shapes b out r x → Shapes b out q y → (r ≡ q) × (x ≡ y)
shape_unique b out r q x y p w = (
  λ i. record { verdict = (p.verdict ∙ sym w.verdict) i; blocks = (p.blocks ∙ sym w.blocks) i },
  p.entries ∙ sym w.entries,
)

-- ---- the buffer between the passes and after them
module _ (b : List ℕ) (out between : List ℕ) (room : count_of b ≤ length out)
    (e : between ≡ patch out 0 (downs_of (columns_from b 0))) where
  short : 0 + length (downs_of (columns_from b 0)) ≤ length out
  short = omega (arith, length-downs (columns_from b 0), length-columns b 0)

  pub between_long : count_of b ≤ length between
  between_long = rw e (rw (length-patch out (downs_of (columns_from b 0)) 0 short) room)

  pub downs_written : between ≡ patch between 0 (downs_of (columns_from b 0))
  downs_written = rw e (sym (patch_over out (downs_of (columns_from b 0)) (downs_of (columns_from b 0)) 0 refl short))

  pub entries_written : (after : List ℕ) → after ≡ patch between 0 (entries_up_to b (count_of b))
      → after ≡ patch out 0 (entries_up_to b (count_of b))
  entries_written after f =
      let l : length (downs_of (columns_from b 0)) ≡ length (entries_up_to b (count_of b)) = omega
      (arith, length-downs (columns_from b 0), length-columns b 0, length_upto b (count_of b)) in
      f ∙ rw e (patch_over out (downs_of (columns_from b 0)) (entries_up_to b (count_of b)) 0 l short)
