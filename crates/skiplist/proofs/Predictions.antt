-- The commands on honest proofs of a row of blocks: what is predicted is the edited row's metadata, labelled afresh,
-- and the tag reported is the one at the position. The row is cut at the position, and the law on honest paths
-- applied.
use Prim.Native.Nat.{ℕ, zero, suc, ◌-◌, ◌≤◌, ◌<◌}
use native.Mathlib.Omega.{arith}
use mathlib.Core.Path.{◌≡◌, refl, ap, ap₂, sym, ◌∙◌}
use mathlib.Core.Option.{some}
use mathlib.Core.List.{List, [], ◌∷◌, ◌++◌}
use lib.ListN.{length, take, drop}
use Rattle.skiplist.specs.Row.{Column}
use Rattle.skiplist.specs.Tree.{Tree}
use Rattle.skiplist.specs.Entry.{Place}
use Rattle.skiplist.specs.Path.{place}
use Rattle.skiplist.specs.Edits.{replaced, inserted}
use Rattle.skiplist.specs.Equal.{side-discrete}
use Rattle.skiplist.specs.Meeting.{deleted}
use Rattle.skiplist.specs.Label.{sides, metadata, labelled}
use Rattle.skiplist.specs.Limits.{most_height}
use Rattle.skiplist.specs.Blocks.{Block, shown, head, block_item, column, row, way_to, metadata_of, Kept, AllSound}
use Rattle.skiplist.specs.Blocks.{tag_at}
use Rattle.skiplist.specs.Commands.{Command, read, replace, insert, delete, InRange, retag, edited, spot}
use Rattle.skiplist.specs.Commands.{first_at, reported, predicted}
use Rattle.skiplist.proofs.Runs.{last-snoc}
use Rattle.skiplist.proofs.HonestLaws.{honest-replaced, honest-inserted, honest-deleted}
use Rattle.skiplist.proofs.BlockLaws.{heavy, fit_row, low_row, row-append, row_cut, BlockAt, block_at, shown_at}
use Rattle.skiplist.proofs.WayLaws.{way_found}

less : (p : ℕ) → suc p - 1 ≡ p
less p = omega arith

-- the row cut around the block with p blocks before it
module _ (p : ℕ) (bs : List Block) (in_row : p < length bs) where
  middle : BlockAt p bs
  middle = block_at p bs in_row

  before : List Column
  before = row (take p bs)

  after : List Column
  after = row (drop (suc p) bs)

  one : List Column
  one = column middle.it ∷ []

  row_upto : row (take (suc p) bs) ≡ before ++ one
  unfolding before one
  row_upto = ap row middle.upto ∙ sym (row-append (take p bs) (middle.it ∷ []))

  row_from : row (drop p bs) ≡ one ++ after
  unfolding one after
  row_from = ap row middle.here

  around : before ++ (one ++ after) ≡ row bs
  unfolding before
  around = ap (λ q. row (take p bs) ++ q) (sym row_from) ∙ row_cut p bs

module _ (H : List ℕ → List ℕ) (bs : List Block) (sound : AllSound bs) where
  replaced-way : (p : ℕ) (t : List ℕ) → p < length bs
      → replaced (sides H) (block_item t) (labelled H (way_to (suc p) bs)) ≡ metadata_of H (edited (replace (suc p) t) bs)
  unfolding middle before after one
  replaced-way p t k =
      ap (λ z. replaced (sides H) (block_item t) (labelled H z))
      (way_found (suc p) bs sound k ∙ ap (λ A. place head A (row (drop (suc p) bs))) (row_upto p bs k))
      ∙ honest-replaced (sides H) head (before p bs k) (column (middle p bs k).it) (block_item t) (after p bs k)
      ∙ ap (metadata H head)
      (row-append (take p bs) (record { height = (middle p bs k).it.height; tag = t } ∷ drop (suc p) bs)
      ∙ ap row (sym parts))
    where
      parts : take (suc p - 1) bs ++ retag t (drop (suc p - 1) bs)
          ≡ take p bs ++ record { height = (middle p bs k).it.height; tag = t } ∷ drop (suc p) bs
      parts = ap (λ n. take n bs ++ retag t (drop n bs)) (less p) ∙ ap (λ q. take p bs ++ retag t q) (middle p bs k).here

  inserted-way : (p : ℕ) (x : Block) → p ≤ length bs → x.height ≤ most_height
      → inserted (sides H) (column x) (labelled H (way_to p bs)) ≡ metadata_of H (edited (insert p x) bs)
  inserted-way p x k h =
      ap (λ z. inserted (sides H) (column x) (labelled H z)) (way_found p bs sound k)
      ∙ honest-inserted (sides H) most_height head (row (take p bs)) (column x) (row (drop p bs))
      (rw (row_cut p bs) (low_row bs sound)) h
      ∙ ap (metadata H head) (row-append (take p bs) (x ∷ drop p bs))

  deleted-way : (p : ℕ) → p < length bs
      → deleted (sides H) side-discrete (labelled H (way_to (suc p - 1) bs)) (labelled H (way_to (suc p) bs))
      ≡ some (metadata_of H (edited (delete (suc p)) bs))
  unfolding before after one
  deleted-way p k =
      ap₂ (λ z w. deleted (sides H) side-discrete (labelled H z) (labelled H w))
      (ap (λ n. way_to n bs) (less p) ∙ way_found p bs sound (omega arith)
      ∙ ap (λ B. place head (row (take p bs)) B) (row_from p bs k))
      (way_found (suc p) bs sound k ∙ ap (λ A. place head A (row (drop (suc p) bs))) (row_upto p bs k))
      ∙ honest-deleted (sides H) side-discrete most_height head (before p bs k) (one p bs k) (after p bs k)
      (rw (around p bs k) (low_row bs sound)) (omega arith)
      Kept heavy (refl, refl) (rw (around p bs k) (fit_row bs sound))
      (sym (ap (λ i. i.own) (last-snoc head (before p bs k) (column (middle p bs k).it))))
      ∙ ap (λ q. some (metadata H head q))
      (row-append (take p bs) (drop (suc p) bs) ∙ ap (λ n. row (take n bs ++ drop (suc p) bs)) (sym (less p)))

  -- EVERY COMMAND
  pub predicted-way : (k : Command) → InRange k (length bs)
      → predicted H k (metadata_of H bs) (labelled H (way_to (first_at k) bs)) (labelled H (way_to (spot k) bs))
      ≡ some (metadata_of H (edited k bs))
  predicted-way (read p) r = refl
  predicted-way (replace zero t) r = absurd (omega (arith, r.0))
  predicted-way (replace (suc p) t) r = ap some (replaced-way p t r.1)
  predicted-way (insert p x) r = ap some (inserted-way p x r.0 r.1)
  predicted-way (delete zero) r = absurd (omega (arith, r.0))
  predicted-way (delete (suc p)) r = deleted-way p r.1

  shown-way : (p : ℕ) → p ≤ length bs → shown (way_to p bs).item ≡ tag_at p bs
  shown-way p k = ap (λ (z : Place Tree). shown z.item) (way_found p bs sound k) ∙ shown_at p bs k

  pub reported-way : (k : Command) → InRange k (length bs)
      → reported k (labelled H (way_to (first_at k) bs)) (labelled H (way_to (spot k) bs)) ≡ tag_at (spot k) bs
  reported-way (read p) r = shown-way p r.1
  reported-way (replace p t) r = shown-way p r.1
  reported-way (insert p x) r = shown-way p r.0
  reported-way (delete p) r = shown-way p r.1
