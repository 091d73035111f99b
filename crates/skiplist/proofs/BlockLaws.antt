-- Document 01's row under the laws: what settles a leaf's own from its third, the row cut at a position, and the tag
-- that stands there.
use Prim.Native.Nat.{ℕ, zero, suc, ◌≤◌, ◌<◌}
use native.Mathlib.Omega.{arith}
use mathlib.Core.Path.{◌≡◌, refl, ap, sym, ◌∙◌}
use mathlib.Core.Logic.{inl, inr}
use mathlib.Core.Bool.{Bool, true, false}
use mathlib.Core.List.{List, [], ◌∷◌, ◌++◌}
use lib.ListN.{length, take, drop, take-append-drop}
use lib.Seq.{length-take-le}
use Rattle.skiplist.specs.Row.{Item, AtMost, weights, last_of}
use Rattle.skiplist.specs.Tree.{Tree}
use Rattle.skiplist.specs.Sides.{trees}
use Rattle.skiplist.specs.Entry.{Place}
use Rattle.skiplist.specs.Find.{own_at, Proves}
use Rattle.skiplist.specs.Path.{place}
use Rattle.skiplist.specs.Leaves.{AllFit}
use Rattle.skiplist.specs.Check.{Archive}
use Rattle.skiplist.specs.Limits.{most_height}
use Rattle.skiplist.specs.Blocks.{Block, shown, head, block_item, column, row, Kept, Sent, AllSound}
use Rattle.skiplist.specs.Blocks.{WithinLimits, tag_after, tag_at}
use Rattle.skiplist.proofs.RankLaws.{place_position}

-- LEAVES
item-eq : {c d : Item} → c.own ≡ d.own → c.third ≡ d.third → c ≡ d
item-eq p q = λ i. record { own = p i; third = q i }

-- what settles own: the head's third is one byte and a tag has 32
pub settles : (f : Bool) (c d : Item) → Sent f c → Kept f d → c.third ≡ d.third → c ≡ d
settles true c d (inl k) g e = item-eq (omega (arith, k.0, g.0)) e
settles true c d (inr k) g e = absurd (omega (arith, k.1, ap length (e ∙ g.1)))
settles false c d (inl k) g e = absurd (omega (arith, g.1, ap length (sym k.1 ∙ e)))
settles false c d (inr k) g e = item-eq (omega (arith, k.0, g.0)) e

pub heavy : (c : Item) → Kept false c → 1 ≤ c.own
heavy c k = omega (arith, k.0)

pub sends : (f : Bool) (c : Item) → Kept f c → Sent f c
sends true c k = inl k
sends false c k = inr k

-- THE ROW
pub weights-row : (bs : List Block) → weights (row bs) ≡ length bs
weights-row [] = refl
weights-row (b ∷ bs) = omega (arith, weights-row bs)

pub fit_row : (bs : List Block) → AllSound bs → AllFit Kept (row bs)
fit_row [] a = tt
fit_row (b ∷ bs) a = ((refl, a.1), fit_row bs a.2)

pub low_row : (bs : List Block) → AllSound bs → AtMost most_height (row bs)
low_row [] a = tt
low_row (b ∷ bs) a = (a.0, low_row bs a.2)

pub archive : (bs : List Block) → WithinLimits bs → Archive Kept most_height head (row bs)
archive bs l = record {
  first = (refl, refl);
  blocks = fit_row bs l.sound;
  low = low_row bs l.sound;
  few = omega (arith, weights-row bs, l.count);
}

pub row-append : (xs ys : List Block) → row xs ++ row ys ≡ row (xs ++ ys)
row-append [] ys = refl
row-append (x ∷ xs) ys = ap (λ r. column x ∷ r) (row-append xs ys)

pub row_cut : (p : ℕ) (bs : List Block) → row (take p bs) ++ row (drop p bs) ≡ row bs
row_cut p bs = row-append (take p bs) (drop p bs) ∙ ap row (take-append-drop p bs)

-- the block with p blocks before it
pub record BlockAt (p : ℕ) (bs : List Block) : Type 0 where
  pub it : Block
  pub here : drop p bs ≡ it ∷ drop (suc p) bs
  pub upto : take (suc p) bs ≡ take p bs ++ it ∷ []

pub block_at : (p : ℕ) (bs : List Block) → p < length bs → BlockAt p bs
block_at p [] k = absurd (omega arith)
block_at zero (b ∷ bs) k = record { it = b; here = refl; upto = refl }
block_at (suc p) (b ∷ bs) k =
    let t = block_at p bs (omega arith) in record { it = t.it; here = t.here; upto = ap (λ r. b ∷ r) t.upto }

-- THE COLUMN AT POSITION p: the last of the head and the first p blocks
abbrev pub place_at : ℕ → List Block → Place Tree
place_at p bs = place head (row (take p bs)) (row (drop p bs))

last-own : (c : Item) (bs : List Block) → c.own ≡ 1 → (last_of c (row bs)).own ≡ 1
last-own c [] k = k
last-own c (b ∷ bs) k = last-own (block_item b.tag) bs refl

own_last : (p : ℕ) (bs : List Block) → p ≤ length bs → (last_of head (row (take p bs))).own ≡ own_at p
own_last zero bs k = refl
own_last (suc p) [] k = absurd (omega arith)
own_last (suc p) (b ∷ bs) k = last-own (block_item b.tag) (take p bs) refl

pub place-proves : (p : ℕ) (bs : List Block) → p ≤ length bs → Proves trees p (place_at p bs)
place-proves p bs k = (
  place_position head (row (take p bs)) (row (drop p bs)) ∙ omega (arith, weights-row (take p bs), length-take-le p bs k),
  own_last p bs k,
)

last-tag : (c : Item) (p : ℕ) (bs : List Block) → p < length bs → shown (last_of c (row (take (suc p) bs))) ≡ tag_after p bs
last-tag c p [] k = absurd (omega arith)
last-tag c zero (b ∷ bs) k = refl
last-tag c (suc p) (b ∷ bs) k = last-tag (block_item b.tag) p bs (omega arith)

pub shown_at : (p : ℕ) (bs : List Block) → p ≤ length bs → shown (last_of head (row (take p bs))) ≡ tag_at p bs
shown_at zero bs k = refl
shown_at (suc p) bs k = last-tag head p bs k
