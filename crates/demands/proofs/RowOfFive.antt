-- P1 to P10, of the definitions alone: each side of each equation is computed.
-- Assumes nothing.
use Prim.Native.Nat.{ℕ}
use mathlib.Core.Path.{refl}
use mathlib.Core.List.{List}
use Rattle.skiplist.specs.Tree.{tree}
use Rattle.labels.specs.Heights.{trailing, height_of}
use Rattle.demands.specs.RowOfFive.{RowOfFive}

pub row_of_five : (A B C D E X : List ℕ) → RowOfFive A B C D E X
unfolding tree trailing height_of
row_of_five A B C D E X = record {
  p1 = (refl, refl, refl);
  p2 = refl;
  p3 = (refl, refl);
  p4 = refl;
  p5 = (refl, refl);
  p6 = (refl, refl, refl);
  p7 = (refl, refl);
  p8 = refl;
  p9 = (refl, refl);
  p10 = refl;
}
