-- A command is admitted exactly where it is in range; the positions that it names are then in the row; and it repeats a tag in range
-- exactly where it is Insert with the tag at its place, which is `Again`.
-- Assumes nothing.
use Rattle.std.specs.Prelude.{Ok}
use Prim.Native.Nat.{ℕ, ◌≤◌}
use native.Mathlib.Omega.{arith}
use mathlib.Core.Path.{◌≡◌, refl}
use mathlib.Core.Bool.{Bool, true, false, ◌&&◌, cond}
use mathlib.Core.List.{List, [], ◌∷◌}
use lib.Dec.{eqb, ltb}
use lib.ListN.{length}
use borrow.Author.Tests.{lt-ltb, le-ltb, ne_eqb, ltb-true, ltb-false, eqb-false}
use Rattle.octets.specs.Runs.{same}
use Rattle.octets.proofs.RunLaws.{same-true, same_refl}
use Rattle.refusals.specs.Order.{verdict_of}
use Rattle.refusals.proofs.OrderLaws.{done-none}
use Rattle.skiplist.specs.Limits.{most_blocks, most_height}
use Rattle.skiplist.specs.Blocks.{Block, tag_at}
use Rattle.skiplist.specs.Commands.{InRange, spot, first_at, repeats_at, repeats}
use Rattle.skiplist.proofs.Cases.{never, both, neither}
use Rattle.commands.specs.declared.Operation.{Operation}
use Rattle.commands.specs.declared.Operation.TheVariants.{Read, Replace, Insert, Delete}
use Rattle.commands.specs.declared.Command.{Command}
use Rattle.commands.specs.Admission.{least_of, inserts_of, admission_rules}
use Rattle.commands.specs.Meaning.{order_of, meaning}
use Rattle.commands.specs.Again.{Again}

-- WHAT AN ADMITTED COMMAND SAYS
pub record Admitted (k : Command) (n : ℕ) : Type 0 where
  pub least : least_of k.operation ≤ k.position
  pub within : k.position ≤ n
  pub low : inserts_of k.operation ≡ true → k.height ≤ most_height
  pub space : inserts_of k.operation ≡ true → n ≡ most_blocks → ⊥

pub admitted_is : (k : Command) (n : ℕ) → verdict_of (admission_rules k n) ≡ Ok tt → Admitted k n
admitted_is k n d =
    let e = done-none (admission_rules k n) d in
    let r = neither (ltb k.position (least_of k.operation)) (ltb n k.position) e.0 in
    record {
      least = ltb-false k.position (least_of k.operation) r.0;
      within = ltb-false n k.position r.1;
      low = λ i. ltb-false most_height k.height (rw i at e.1.0);
      space = λ i. eqb-false n most_blocks (rw i at e.1.1.0);
    }

-- THE RANGE: neither 2 nor 3 nor 4
pub admitted_range : (k : Command) (n : ℕ) → n ≤ most_blocks → verdict_of (admission_rules k n) ≡ Ok tt
    → InRange (meaning k) n
admitted_range k n small d = go k.operation a.least a.low a.space
  where
    a : Admitted k n
    a = admitted_is k n d

    go : (o : Operation) → least_of o ≤ k.position → (inserts_of o ≡ true → k.height ≤ most_height)
        → (inserts_of o ≡ true → n ≡ most_blocks → ⊥) → InRange (order_of o k.position k.height k.tag) n
    go Read l h s = (l, a.within)
    go Replace l h s = (l, a.within)
    go Insert l h s = let full = s refl in (a.within, h refl, omega (arith, full))
    go Delete l h s = (l, a.within)

pub range_admitted : (o : Operation) (p h : ℕ) (t : List ℕ) (n : ℕ) → InRange (order_of o p h t) n
    → verdict_of (admission_rules (record { operation = o; position = p; height = h; tag = t }) n) ≡ Ok tt
range_admitted Read p h t n r = rw (le-ltb p 1 r.0, le-ltb n p r.1)
range_admitted Replace p h t n r = rw (le-ltb p 1 r.0, le-ltb n p r.1)
range_admitted Delete p h t n r = rw (le-ltb p 1 r.0, le-ltb n p r.1)
range_admitted Insert p h t n r = rw (
  le-ltb p 0 (omega arith),
  le-ltb n p r.0,
  le-ltb most_height h r.1,
  ne_eqb n most_blocks (λ q. omega (arith, r.2)),
)

-- the positions that it names
pub spot_is : (o : Operation) (p h : ℕ) (t : List ℕ) → spot (order_of o p h t) ≡ p
spot_is Read p h t = refl
spot_is Replace p h t = refl
spot_is Insert p h t = refl
spot_is Delete p h t = refl

pub first_in_row : (o : Operation) (p h : ℕ) (t : List ℕ) (n : ℕ) → InRange (order_of o p h t) n
    → first_at (order_of o p h t) ≤ n
first_in_row Read p h t n r = r.1
first_in_row Replace p h t n r = r.1
first_in_row Insert p h t n r = r.0
first_in_row Delete p h t n r = omega (arith, r.1)

pub spot_in_row : (o : Operation) (p h : ℕ) (t : List ℕ) (n : ℕ) → InRange (order_of o p h t) n → p ≤ n
spot_in_row Read p h t n r = r.1
spot_in_row Replace p h t n r = r.1
spot_in_row Insert p h t n r = r.0
spot_in_row Delete p h t n r = r.1

pub repeats-true : (p : ℕ) (new there : List ℕ) → repeats_at p new there ≡ true → (1 ≤ p) × (new ≡ there)
repeats-true p new there e =
    let b = both (ltb 0 p) (same new there) e in
    (ltb-true 0 p b.0, same-true new there b.1)

pub again-repeats : (bs : List Block) (k : Command) → Again bs k → (InRange (meaning k) (length bs))
    × (repeats (meaning k) bs ≡ true)
again-repeats bs k a = (
  rw a.insert (a.place.1, a.low, a.space),
  rw (a.insert, a.tag, lt-ltb 0 k.position a.place.0) (same_refl (tag_at k.position bs)),
)

pub repeats-again : (bs : List Block) (k : Command) → InRange (meaning k) (length bs) → repeats (meaning k) bs ≡ true
    → Again bs k
repeats-again bs k = go k.operation refl
  where
    go : (o : Operation) → k.operation ≡ o → InRange (order_of o k.position k.height k.tag) (length bs)
        → repeats (order_of o k.position k.height k.tag) bs ≡ true → Again bs k
    go Read q r e = never cc
    go Replace q r e = never cc
    go Delete q r e = never cc
    go Insert q r e =
        let b = repeats-true k.position k.tag (tag_at k.position bs) e in
        record { insert = q; place = (b.0, r.0); tag = b.1; low = r.1; space = r.2 }

-- what does not come again does not repeat
pub not_again : (bs : List Block) (k : Command) → InRange (meaning k) (length bs) → (Again bs k → ⊥)
    → repeats (meaning k) bs ≡ false
not_again bs k r fresh = go (repeats (meaning k) bs) refl
  where
    go : (x : Bool) → repeats (meaning k) bs ≡ x → x ≡ false
    go true e = absurd (fresh (repeats-again bs k r e))
    go false e = refl
