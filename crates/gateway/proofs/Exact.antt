-- What the code recomputes is the model's rank and label: ranks are the sums of the fields, which stay below 2 ^ 64.
-- Assumes nothing.
use Prim.Native.Nat.{ℕ, zero, suc, ◌+◌, ◌≤◌, ◌<◌, ◌^◌, ◌%◌}
use mathlib.Core.Path.{◌≡◌, refl, sym, ap, ap₂, ◌∙◌}
use mathlib.Core.Bool.{Bool, true, false, cond}
use mathlib.Core.List.{List, [], ◌∷◌, ◌++◌, map}
use native.Mathlib.Omega.{arith}
use native.Mathlib.Numerals.{add-one}
use lib.Dec.{eqb, leb}
use borrow.Author.Tests.{eqb-true}
use Rattle.sha256.specs.Hash.{sha256}
use Rattle.skiplist.specs.Row.{Item, Column}
use Rattle.skiplist.specs.Entry.{Entry, down, right, pass, level}
use Rattle.skiplist.specs.Recompute.{plug, whole, field, fields, proved_rank}
use Rattle.skiplist.specs.Merge.{rights, downs, merge}
use Rattle.skiplist.specs.Edits.{keeps, kept, remaining, replaced, seated, inserted}
use Rattle.skiplist.specs.Label as label
use Rattle.skiplist.specs.Label.{sides, leaf_side, node_side}
use Rattle.skiplist.proofs.MapLaws.{rights-map, downs-map, kept-map, remaining-map}
use Rattle.labels.specs.declared.Side.{Side}
use Rattle.labels.specs.CodeSides.{message, to_side, no_side, leaf_of, node_of, coded}
use Rattle.proofbytes.specs.declared.read.Beside.{Beside}
use Rattle.proofbytes.specs.Reading.{beside_at, side_from, entries_from, place_at}
use Rattle.gateway.specs.Climbing.{of_side, coding, climbed, stop_side_of, item_at, stop_leaf, coded_place}
use Rattle.gateway.specs.Checking.{𝓢}

-- a side of the code is exactly the model's side r: its rank, its label, not empty
pub record Is (t : Side) (r : label.Side) : Type 0 where
  pub rank : t.rank ≡ r.rank
  pub label : t.label ≡ r.label
  pub full : t.empty ≡ false

pub is_side : {t : Side} {r : label.Side} → Is t r → to_side t ≡ r
is_side {t} {r} i =
    let m : message t ≡ r.label = rw i.full i.label in
    λ j. record { rank = i.rank j; label = m j }

-- STOPS
pub side_stop : (b : Beside) → to_side (stop_side_of b) ≡ side_from b
unfolding stop_side_of side_from no_side
side_stop b = go (eqb b.rank 0) refl
  where
    go : (x : Bool) → eqb b.rank 0 ≡ x
        → to_side (cond x no_side (record { rank = b.rank; label = b.label; empty = false }))
        ≡ record { rank = b.rank; label = cond x label.nothing b.label }
    go true e = λ i. record { rank = sym (eqb-true b.rank 0 e) i; label = label.nothing }
    go false e = refl

-- LEAVES AND NODES
pub leaf_is : (c : Item) (t : Side) {r : label.Side} → to_side t ≡ r → c.own + r.rank < 2 ^ 64
    → Is (leaf_of c t) (leaf_side sha256 c r)
unfolding leaf_of
leaf_is c t {r} e h =
    let n : t.rank ≡ r.rank = ap (λ (x : label.Side). x.rank) e in
    let w : (c.own + t.rank) % 2 ^ 64 ≡ c.own + r.rank = omega arith in
    record {
      rank = w;
      label = ap₂ (λ n x. label.label_of sha256 0 n c.third x) w
          (ap (λ (x : label.Side). x.label) e);
      full = refl;
    }

pub node_is : (l : ℕ) (a b : Side) {x y : label.Side} → to_side a ≡ x → to_side b ≡ y → x.rank + y.rank < 2 ^ 64
    → Is (node_of l a b) (node_side sha256 l x y)
unfolding node_of
node_is l a b {x} {y} ea eb h =
    let n : a.rank ≡ x.rank = ap (λ (x : label.Side). x.rank) ea in
    let m : b.rank ≡ y.rank = ap (λ (x : label.Side). x.rank) eb in
    let w : (a.rank + b.rank) % 2 ^ 64 ≡ x.rank + y.rank = omega arith in
    record {
      rank = w;
      label = ap (λ n. label.label_of sha256 l n (message a) (message b)) w
          ∙ ap₂ (λ p q. label.label_of sha256 l (x.rank + y.rank) p q) (ap (λ (x : label.Side). x.label) ea)
          (ap (λ (x : label.Side). x.label) eb);
      full = refl;
    }

-- ENTRIES
pub plug-rank : (p : List (Entry label.Side)) (r : label.Side) → (plug 𝓢 p r).rank ≡ fields 𝓢 p + r.rank
plug-rank [] r = omega arith
plug-rank (down l s ∷ p) r = omega (arith, plug-rank p r)
plug-rank (right l s ∷ p) r = omega (arith, plug-rank p r)
plug-rank (pass c ∷ p) r = omega (arith, plug-rank p r)

pub climb_is : (p : List (Entry label.Side)) (t : Side) {r : label.Side} → Is t r → fields 𝓢 p + r.rank < 2 ^ 64
    → Is (climbed p t) (plug 𝓢 p r)
climb_is [] t i h = i
climb_is (down l s ∷ p) t {r} i h =
    let q = climb_is p t i (omega arith) in
    node_is l (climbed p t) (of_side s) (is_side q) refl (omega (arith, plug-rank p r))
climb_is (right l s ∷ p) t {r} i h =
    let q = climb_is p t i (omega arith) in
    node_is l (of_side s) (climbed p t) refl (is_side q) (omega (arith, plug-rank p r))
climb_is (pass c ∷ p) t {r} i h =
    let q = climb_is p t i (omega arith) in
    leaf_is c (climbed p t) (is_side q) (omega (arith, plug-rank p r))

-- SUMS of fields
pub fields-append : (p q : List (Entry label.Side)) → fields 𝓢 (p ++ q) ≡ fields 𝓢 p + fields 𝓢 q
fields-append [] q = omega arith
fields-append (e ∷ p) q = omega (arith, fields-append p q)

pub fields_kinds : (p : List (Entry label.Side)) → fields 𝓢 (rights p) + fields 𝓢 (downs p) ≡ fields 𝓢 p
fields_kinds [] = omega arith
fields_kinds (down l s ∷ p) = omega (arith, fields_kinds p)
fields_kinds (right l s ∷ p) = omega (arith, fields_kinds p)
fields_kinds (pass c ∷ p) = omega (arith, fields_kinds p)

pub fields_cut : (h : ℕ) (p : List (Entry label.Side)) → fields 𝓢 (kept h p) + fields 𝓢 (remaining h p) ≡ fields 𝓢 p
fields_cut h [] = omega arith
fields_cut h (e ∷ p) = go (keeps h e) (fields_cut h p)
  where
    go : (b : Bool) → fields 𝓢 (kept h p) + fields 𝓢 (remaining h p) ≡ fields 𝓢 p
        → fields 𝓢 (cond b (e ∷ kept h p) []) + fields 𝓢 (cond b (remaining h p) (e ∷ p)) ≡ field 𝓢 e + fields 𝓢 p
    go true r = omega arith
    go false r = omega arith

pub fields-merge : (p q : List (Entry label.Side)) → fields 𝓢 (merge p q) ≡ fields 𝓢 p + fields 𝓢 q
fields-merge [] q = omega arith
fields-merge (e ∷ p) [] = omega arith
fields-merge (e ∷ p) (d ∷ q) = go (leb (level d) (level e)) (fields-merge p (d ∷ q)) (fields-merge (e ∷ p) q)
  where
    go : (b : Bool) → fields 𝓢 (merge p (d ∷ q)) ≡ fields 𝓢 p + fields 𝓢 (d ∷ q) → fields 𝓢 (merge (e ∷ p) q)
        ≡ fields 𝓢 (e ∷ p) + fields 𝓢 q
        → fields 𝓢 (cond b (e ∷ merge p (d ∷ q)) (d ∷ merge (e ∷ p) q))
        ≡ (field 𝓢 e + fields 𝓢 p) + (field 𝓢 d + fields 𝓢 q)
    go true u v = omega arith
    go false u v = omega arith

-- THE WHOLE PROOF, and Replace
module _ (s : List ℕ) (k : ℕ) where
  pub replaced_is : (x : Item) → fields 𝓢 (entries_from s 0 k) + (x.own + (side_from (beside_at s k)).rank) < 2 ^ 64
      → Is (replaced coded x (coded_place s k)) (replaced 𝓢 x (place_at s k))
  replaced_is x h =
      climb_is (entries_from s 0 k) (leaf_of x (stop_side_of (beside_at s k)))
      (leaf_is x (stop_side_of (beside_at s k)) (side_stop (beside_at s k)) (omega arith)) (omega arith)

  pub whole_is : proved_rank 𝓢 (place_at s k) < 2 ^ 64 → Is (climbed (entries_from s 0 k) (stop_leaf s k))
      (whole 𝓢 (place_at s k))
  whole_is h = replaced_is (item_at s k) h

-- INSERT
module _ (x c : Item) (t : Side) {r : label.Side} (e : to_side t ≡ r) where
  pub seated_is : (h : ℕ) (p : List (Entry label.Side)) → fields 𝓢 p + (x.own + (c.own + r.rank)) < 2 ^ 64
      → Is (seated coded h x (map coding p) c t) (seated 𝓢 h x p c r)
  unfolding no_side
  seated_is zero p b = leaf_is c (leaf_of x t) (is_side (leaf_is x t e (omega arith))) (omega arith)
  seated_is (suc h) p b =
      rw (rights-map of_side p, downs-map of_side p)
      (node_is (suc h) (climbed (rights p) (leaf_of c no_side)) (climbed (downs p) (leaf_of x t))
      (is_side (climb_is (rights p) (leaf_of c no_side) (leaf_is c no_side refl (omega (arith, fields_kinds p)))
      (omega (arith, fields_kinds p))))
      (is_side (climb_is (downs p) (leaf_of x t) (leaf_is x t e (omega (arith, fields_kinds p)))
      (omega (arith, fields_kinds p))))
      (omega (
        arith,
        fields_kinds p,
        plug-rank (rights p) (leaf_side sha256 c (sides sha256).none),
        plug-rank
            (downs p) (leaf_side sha256 x r),
      )))

  pub seated-rank : (h : ℕ) (p : List (Entry label.Side))
      → (seated 𝓢 h x p c r).rank ≤ fields 𝓢 p + (x.own + (c.own + r.rank))
  seated-rank zero p = omega arith
  seated-rank (suc h) p =
      omega (
        arith,
        fields_kinds p,
        plug-rank (rights p) (leaf_side sha256 c (sides sha256).none),
        plug-rank
            (downs p) (leaf_side sha256 x r),
      )

pub inserted_is : (s : List ℕ) (k : ℕ) (x : Column) → x.item.own + proved_rank 𝓢 (place_at s k) < 2 ^ 64
    → Is (inserted coded x (coded_place s k)) (inserted 𝓢 x (place_at s k))
inserted_is s k x b =
    let p = entries_from s 0 k in
    let t = stop_side_of (beside_at s k) in
    let e = side_stop (beside_at s k) in
    rw (kept-map of_side x.height p, remaining-map of_side x.height p)
    (climb_is (kept x.height p) (seated coded x.height x.item (map coding (remaining x.height p))
    (item_at s k) t)
    (seated_is x.item (item_at s k) t e x.height (remaining x.height p)
    (omega (arith, fields_cut x.height p)))
    (omega (
      arith,
      fields_cut x.height p,
      seated-rank x.item (item_at s k) t e x.height
          (remaining x.height p),
    )))

-- a run of entries from the root, and the rest
pub entries_split : (s : List ℕ) (n i m : ℕ) → entries_from s i (n + m) ≡ entries_from s i n ++ entries_from s (i + n) m
unfolding entries_from
entries_split s zero i m =
    let a : 0 + m ≡ m = omega arith in
    let b : i + 0 ≡ i = omega arith in
    rw (a, b)
entries_split s (suc n) i m =
    let a : suc n + m ≡ suc (n + m) = omega (arith, add-one n, add-one (n + m)) in
    let b : i + suc n ≡ suc i + n = omega (arith, add-one i, add-one n) in
    rw (a, b, entries_split s n (suc i) m)
