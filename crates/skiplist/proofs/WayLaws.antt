-- Document 01's way to a position in a row of blocks: it is the path made from the row, so it proves the position and
-- the count, obeys the rule on levels, recomputes the root, has as many entries as heights say, and passes the
-- gateway's check.
use Prim.Native.Nat.{ℕ, zero, suc, ◌+◌, ◌-◌, ◌≤◌, min}
use native.Mathlib.Omega.{arith}
use mathlib.Core.Path.{◌≡◌, ap, sym, ◌∙◌, refl, subst}
use mathlib.Core.List.{List, ◌++◌}
use lib.ListN.{length, take, drop, length-map, length-drop}
use lib.Seq.{length-take-le}
use Rattle.skiplist.specs.Row.{AtMost}
use Rattle.skiplist.specs.Tree.{Tree, tree, rank}
use Rattle.skiplist.specs.Sides.{trees}
use Rattle.skiplist.specs.Entry.{Place, Falls}
use Rattle.skiplist.specs.Recompute.{whole, proved_rank}
use Rattle.skiplist.specs.Find.{walk, own_at, Proves, Holds}
use Rattle.skiplist.specs.Length.{entry_count}
use Rattle.skiplist.specs.Label.{sides, labelled}
use Rattle.skiplist.specs.Check.{Archive, Accepted}
use Rattle.skiplist.specs.Limits.{most_height}
use Rattle.skiplist.specs.Blocks.{Block, head, column, row, root, way_to, metadata_of, Kept, Sent, AllSound}
use Rattle.skiplist.specs.Blocks.{WithinLimits}
use Rattle.skiplist.proofs.Runs.{at_most_left, at_most-right}
use Rattle.skiplist.proofs.PathLaws.{place-whole, path_falls}
use Rattle.skiplist.proofs.RankLaws.{tree-rank, trees_weigh, side-weight, rank_proved}
use Rattle.skiplist.proofs.FindLaws.{walk-row, find_is_walk, proves-holds}
use Rattle.skiplist.proofs.LengthLaws.{path_length, count_bound}
use Rattle.skiplist.proofs.Master.{sides_weigh, honest_checked, checked-accepted}
use Rattle.skiplist.proofs.BlockLaws.{sends, heavy, weights-row, fit_row, low_row, archive, row_cut, place_at}
use Rattle.skiplist.proofs.BlockLaws.{place-proves}

pub root-rank : (bs : List Block) → rank (root bs) ≡ length bs
root-rank bs = tree-rank head (row bs) ∙ omega (arith, weights-row bs)

-- the count is the number of blocks
pub metadata_count : (H : List ℕ → List ℕ) (bs : List Block) → (metadata_of H bs).rank ≡ length bs
metadata_count H bs = side-weight (sides H) (sides_weigh H) (root bs) ∙ root-rank bs

-- document 01's way is the way by weights
pub way-walk : (p : ℕ) (bs : List Block) → AllSound bs → way_to p bs ≡ walk p (root bs)
way-walk p bs s = find_is_walk Kept (λ c k. k.0) (λ c k. k.0) p head (row bs) (refl, refl) (fit_row bs s)

module _ (p : ℕ) (bs : List Block) (sound : AllSound bs) (in_row : p ≤ length bs) where
  place-holds : Holds trees p (place_at p bs)
  place-holds = proves-holds trees p (place_at p bs) (place-proves p bs in_row)

  low : AtMost most_height (row (take p bs) ++ row (drop p bs))
  low = rw (row_cut p bs) (low_row bs sound)

  pub way_found : way_to p bs ≡ place_at p bs
  way_found =
      way-walk p bs sound ∙ ap (λ R. walk p (tree head R)) (sym (row_cut p bs))
      ∙ walk-row Kept heavy p head (row (take p bs)) (row (drop p bs)) (refl, refl)
      (rw (row_cut p bs) (fit_row bs sound)) place-holds

  pub way-proves : Proves trees p (way_to p bs)
  way-proves = subst (Proves trees p) (sym way_found) (place-proves p bs in_row)

  pub way-whole : whole trees (way_to p bs) ≡ root bs
  way-whole =
      ap (whole trees) way_found ∙ place-whole head (row (take p bs)) (row (drop p bs)) ∙ ap (tree head) (row_cut p bs)

  pub way-rank : proved_rank trees (way_to p bs) ≡ length bs
  way-rank = rank_proved trees trees_weigh (way_to p bs) ∙ ap rank way-whole ∙ root-rank bs

  pub way-falls : Falls most_height (way_to p bs).entries
  way-falls = subst (λ (z : Place Tree). Falls most_height z.entries) (sym way_found)
      (path_falls most_height head (row (take p bs)) (row (drop p bs))
      (at_most_left most_height (row (take p bs)) (row (drop p bs)) low)
      (at_most-right most_height (row (take p bs)) (row (drop p bs)) low))

  pub way-length : length (way_to p bs).entries ≡ entry_count (row (take p bs)) (row (drop p bs))
  way-length =
      ap (λ (z : Place Tree). length z.entries) way_found
      ∙ path_length most_height head (row (take p bs)) (row (drop p bs))
      (at_most_left most_height (row (take p bs)) (row (drop p bs)) low)
      (at_most-right most_height (row (take p bs)) (row (drop p bs)) low)

  pub way_few : length (way_to p bs).entries ≤ p + min most_height (length bs - p)
  way_few = omega (
    arith,
    way-length,
    count_bound most_height (row (take p bs)) (row (drop p bs))
        (at_most-right most_height (row (take p bs)) (row (drop p bs)) low),
    length-map (take p bs) column,
    length-take-le p bs in_row,
    length-map (drop p bs) column,
    length-drop p bs,
  )

-- THE GATEWAY TAKES IT
pub way-accepted : (H : List ℕ → List ℕ) (p : ℕ) (bs : List Block) → WithinLimits bs → p ≤ length bs
    → Accepted H Sent most_height p (metadata_of H bs) (labelled H (way_to p bs))
way-accepted H p bs l in_row =
    subst (λ z. Accepted H Sent most_height p (metadata_of H bs) (labelled H z)) (sym (way_found p bs l.sound in_row))
    (checked-accepted H Sent most_height p (metadata_of H bs) (labelled H (place_at p bs)) own
    (rw (row_cut p bs) at
    (honest_checked H Sent Kept sends most_height p head (row (take p bs)) (row (drop p bs)) cut
    (place-holds p bs l.sound in_row))))
  where
    cut : Archive Kept most_height head (row (take p bs) ++ row (drop p bs))
    cut = rw (row_cut p bs) (archive bs l)

    small : (n : ℕ) → own_at n ≤ 1
    small zero = omega arith
    small (suc n) = omega arith

    own : (place_at p bs).item.own ≤ 1
    own = rw (place-proves p bs in_row).1 (small p)
