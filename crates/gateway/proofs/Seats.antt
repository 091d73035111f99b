-- What Replace and Insert make of the entries that the code reads, part by part.
-- Assumes nothing.
use Prim.Native.Nat.{ℕ, zero, suc, ◌-◌}
use mathlib.Core.Path.{◌≡◌, refl, sym, ap, ap₂, ◌∙◌}
use mathlib.Core.List.{List, map}
use mathlib.Core.Bool.{true, false}
use native.Mathlib.Omega.{arith}
use native.Mathlib.Nat.{zero-add}
use Rattle.skiplist.specs.Row.{Item}
use Rattle.skiplist.specs.Entry.{Entry}
use Rattle.skiplist.specs.Recompute.{plug}
use Rattle.skiplist.specs.Merge.{rights, downs}
use Rattle.skiplist.specs.Edits.{seated, inserted}
use Rattle.skiplist.specs.Blocks.{block_item, column}
use Rattle.skiplist.proofs.MapLaws.{rights-map, downs-map, kept-map, remaining-map}
use Rattle.labels.specs.declared.Side.{Side}
use Rattle.labels.specs.CodeSides.{no_side, leaf_of, node_of, coded}
use Rattle.proofbytes.specs.Reading.{beside_at, entries_from}
use Rattle.gateway.specs.Climbing.{of_side, coding, climbed, taken, coded_entries, coded_place, item_at}
use Rattle.gateway.specs.Climbing.{stop_side_of, kept_count}
use Rattle.gateway.proofs.Climbs.{taken_all, taken-rights, taken-downs}
use Rattle.gateway.proofs.Runs.{cut}

pub seated_flat : (h : ℕ) (x : Item) (p : List (Entry Side)) (c : Item) (r : Side) → h ≡ 0 → leaf_of c (leaf_of x r)
    ≡ seated coded h x p c r
seated_flat h x p c r e = rw e

seated_tall : (h : ℕ) (x : Item) (p : List (Entry Side)) (c : Item) (r : Side) → (h ≡ 0 → ⊥)
    → node_of h (plug coded (rights p) (leaf_of c no_side)) (plug coded (downs p) (leaf_of x r)) ≡ seated coded h x p c r
seated_tall zero x p c r n = absurd (n refl)
seated_tall (suc h) x p c r n = refl

pub seated_high : (s : List ℕ) (j n h : ℕ) (x : Item) (c : Item) (r : Side) → (h ≡ 0 → ⊥)
    → node_of h (climbed (taken false true (entries_from s j n)) (leaf_of c no_side))
    (climbed (taken true false (entries_from s j n)) (leaf_of x r))
    ≡ seated coded h x (coded_entries s j n) c r
seated_high s j n h x c r ne =
    rw (taken-rights (entries_from s j n), taken-downs (entries_from s j n))
    (ap₂ (node_of h) (ap (λ p. plug coded p (leaf_of c no_side)) (sym (rights-map of_side (entries_from s j n))))
    (ap (λ p. plug coded p (leaf_of x r)) (sym (downs-map of_side (entries_from s j n))))
    ∙ seated_tall h x (coded_entries s j n) c r ne)

pub inserted_parts : (s : List ℕ) (k h : ℕ) (tag : List ℕ) {j : ℕ} → j ≡ kept_count h (entries_from s 0 k)
    → climbed (taken true true (entries_from s 0 (j - 0)))
    (seated coded h (block_item tag) (coded_entries s j (k - j)) (item_at s k) (stop_side_of (beside_at s k)))
    ≡ inserted coded (column (record { height = h; tag = tag })) (coded_place s k)
inserted_parts s k h tag {j} e =
    let c = cut s h k 0 in
    let none : j - 0 ≡ j = omega arith in
    rw (none, taken_all (entries_from s 0 j))
    (ap₂ (λ p q. plug coded p (seated coded h (block_item tag) q (item_at s k) (stop_side_of (beside_at s k))))
    (ap (λ i. map coding (entries_from s 0 i)) e ∙ ap (map coding) (sym c.above)
    ∙ sym (kept-map of_side h (entries_from s 0 k)))
    (ap (λ i. map coding (entries_from s i (k - i))) e ∙ ap
    (λ i. map coding (entries_from s i (k - kept_count h (entries_from s 0 k)))) (sym (zero-add _))
    ∙ ap (map coding) (sym c.below) ∙ sym (remaining-map of_side h (entries_from s 0 k))))
