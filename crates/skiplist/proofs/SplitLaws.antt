-- A path split at a column: where the columns after it up to a later one are at most m tall, the column itself is no
-- lower than m and the first one behind them is taller, the path to a column among them is a path past the columns up
-- to it, and then the path within them. So what two paths do not share is made from few columns.
use Prim.Native.Nat.{ℕ, zero, suc, ◌+◌, ◌≤◌, ◌<◌}
use native.Mathlib.Omega.{arith}
use mathlib.Core.Path.{◌≡◌, refl, ap, ◌∙◌}
use mathlib.Core.Logic.{◌⊎◌, inl, inr}
use mathlib.Core.List.{List, [], ◌∷◌, ◌++◌, append_assoc, append-nil}
use lib.ListN.{length, length-append}
use borrow.Author.Tests.{lt-ltb, le-ltb}
use Rattle.skiplist.specs.Row.{Item, Column, AtMost, Below, last_of}
use Rattle.skiplist.specs.Tree.{Tree}
use Rattle.skiplist.specs.Sides.{Sides, trees}
use Rattle.skiplist.specs.Entry.{Entry, down, right, pass, Falls}
use Rattle.skiplist.specs.Path.{opened, closed, beside, stop_side, down_entries, crossing, graft_entries, entries_to}
use Rattle.skiplist.specs.Length.{tallest, right_columns, down_columns}
use Rattle.skiplist.specs.Sharing.{shared_count}
use Rattle.skiplist.proofs.Cases.{order}
use Rattle.skiplist.proofs.Runs.{below-at_most, at_most-append}
use Rattle.skiplist.proofs.DownLaws.{AllDown, entries_down}
use Rattle.skiplist.proofs.PathLaws.{path_falls}
use Rattle.skiplist.proofs.MergeLaws.{Top, top_up, graft-crossing}
use Rattle.skiplist.proofs.SharedLaws.{at_most-tallest, path_count}

-- a run that is empty or begins with a column taller than m; the height of the last column of a run, h if it is empty
abbrev pub Taller : ℕ → List Column → Type 0
Taller m [] = Unit {0}
Taller m (d ∷ Y) = m < d.height

abbrev pub last_height : ℕ → List Column → ℕ
last_height h [] = h
last_height h (d ∷ A) = last_height d.height A

-- down entries above m
abbrev High : {S : Type 0} → ℕ → List (Entry S) → Type 0
High m [] = Unit {0}
High m (down l s ∷ p) = (m < l) × High m p
High m (right l s ∷ p) = ⊥
High m (pass c ∷ p) = ⊥

-- DOWN ENTRIES
module _ {S : Type 0} (𝓢 : Sides S) (m : ℕ) where
  opened-high : (h : ℕ) (t : S) → m < h → High m (opened 𝓢 h t)
  opened-high zero t k = absurd (omega arith)
  opened-high (suc h) t k = (k, tt)

  closed-high : (h : ℕ) (t : S) (p : List (Entry S)) → m < h → AllDown p → High m (closed 𝓢 h t p)
  closed-high h t [] k a = opened-high h t k
  closed-high h t (down l s ∷ p) k a = go (order h l) (closed-high h t p k a.1)
    where
      go : (h < l) ⊎ (l ≤ h) → High m (closed 𝓢 h t p) → High m (closed 𝓢 h t (down l s ∷ p))
      go (inl i) ih = rw (lt-ltb h l i) (omega arith, ih)
      go (inr i) ih = rw (le-ltb h l i) (opened-high h _ k)
  closed-high h t (right l s ∷ p) k a = absurd a
  closed-high h t (pass c ∷ p) k a = absurd a

  downs-high : (Y : List Column) → Taller m Y → High m (down_entries 𝓢 Y)
  downs-high [] k = tt
  downs-high (d ∷ Y) k = closed-high d.height _ (down_entries 𝓢 Y) k (entries_down 𝓢 Y)

  -- a column no taller than m closes nothing above m
  closed-under : (h : ℕ) (t : S) (p q : List (Entry S)) → h ≤ m → High m p
      → closed 𝓢 h t (p ++ q) ≡ p ++ closed 𝓢 h t q
  closed-under h t [] q k a = refl
  closed-under h t (down l s ∷ p) q k a =
      rw (lt-ltb h l (omega (arith, a.0))) (ap (λ r. down l s ∷ r) (closed-under h t p q k a.1))
  closed-under h t (right l s ∷ p) q k a = absurd a
  closed-under h t (pass c ∷ p) q k a = absurd a

  stop-tall : (Y : List Column) → Taller m Y → stop_side 𝓢 Y ≡ 𝓢.none
  stop-tall [] k = refl
  stop-tall (d ∷ Y) k = go d.height k
    where
      go : (h : ℕ) → m < h → beside 𝓢 h (𝓢.leaf d.item (stop_side 𝓢 Y)) ≡ 𝓢.none
      go zero j = absurd (omega arith)
      go (suc h) j = refl

  module _ (Y : List Column) (high : Taller m Y) where
    pub stop_split : (X : List Column) → stop_side 𝓢 (X ++ Y) ≡ stop_side 𝓢 X
    stop_split [] = stop-tall Y high
    stop_split (d ∷ X) = ap (λ r. beside 𝓢 d.height (𝓢.leaf d.item r)) (stop_split X)

    downs_split : (X : List Column) → AtMost m X → down_entries 𝓢 (X ++ Y) ≡ down_entries 𝓢 Y ++ down_entries 𝓢 X
    downs_split [] a = rw append-nil
    downs_split (d ∷ X) a =
        rw (downs_split X a.1, stop_split X)
        (closed-under d.height (𝓢.leaf d.item (stop_side 𝓢 X)) (down_entries 𝓢 Y) (down_entries 𝓢 X) a.0
        (downs-high Y high))

-- RIGHT ENTRIES
graft-under : (m : ℕ) (c : Item) (h : ℕ) (p q : List (Entry Tree)) → h ≤ m → High m p
    → graft_entries c h (p ++ q) ≡ p ++ graft_entries c h q
graft-under m c h [] q k a = refl
graft-under m c h (down l s ∷ p) q k a =
    rw (lt-ltb h l (omega (arith, a.0))) (ap (λ r. down l s ∷ r) (graft-under m c h p q k a.1))
graft-under m c h (right l s ∷ p) q k a = absurd a
graft-under m c h (pass d ∷ p) q k a = absurd a

-- some entry goes right
abbrev Goes : List (Entry Tree) → Type 0
Goes [] = ⊥
Goes (down l s ∷ p) = Goes p
Goes (right l s ∷ p) = Unit {0}
Goes (pass c ∷ p) = Unit {0}

crossing-goes : (c : Item) (h : ℕ) (p : List (Entry Tree)) → Goes (crossing c h ∷ p)
crossing-goes c zero p = tt
crossing-goes c (suc h) p = tt

graft-goes : (c : Item) (h : ℕ) (p : List (Entry Tree)) → Goes (graft_entries c h p)
graft-goes c h [] = crossing-goes c h []
graft-goes c h (down l s ∷ p) = go (order h l) (graft-goes c h p)
  where
    go : (h < l) ⊎ (l ≤ h) → Goes (graft_entries c h p) → Goes (graft_entries c h (down l s ∷ p))
    go (inl k) ih = rw (lt-ltb h l k) ih
    go (inr k) ih = rw (le-ltb h l k) (crossing-goes c h (down l s ∷ p))
graft-goes c h (right l s ∷ p) = go (order h l)
  where
    go : (h < l) ⊎ (l ≤ h) → Goes (graft_entries c h (right l s ∷ p))
    go (inl k) = rw (lt-ltb h l k) tt
    go (inr k) = rw (le-ltb h l k) (crossing-goes c h (right l s ∷ p))
graft-goes c h (pass d ∷ p) = crossing-goes c h (pass d ∷ p)

-- what stands behind an entry that goes right, or is no higher than the column in front, stays
graft_front : (c : Item) (h : ℕ) (p q : List (Entry Tree)) → Goes p ⊎ Top h q
    → graft_entries c h (p ++ q) ≡ graft_entries c h p ++ q
graft_front c h [] q (inl g) = absurd g
graft_front c h [] q (inr t) = graft-crossing c h q t
graft_front c h (down l s ∷ p) q g = go (order h l) (graft_front c h p q g)
  where
    go : (h < l) ⊎ (l ≤ h) → graft_entries c h (p ++ q) ≡ graft_entries c h p ++ q
        → graft_entries c h (down l s ∷ (p ++ q)) ≡ graft_entries c h (down l s ∷ p) ++ q
    go (inl k) ih = rw (lt-ltb h l k) (ap (λ r. down l s ∷ r) ih)
    go (inr k) ih = rw (le-ltb h l k)
graft_front c h (right l s ∷ p) q g = go (order h l)
  where
    go : (h < l) ⊎ (l ≤ h) → graft_entries c h (right l s ∷ (p ++ q)) ≡ graft_entries c h (right l s ∷ p) ++ q
    go (inl k) = rw (lt-ltb h l k)
    go (inr k) = rw (le-ltb h l k)
graft_front c h (pass d ∷ p) q g = refl

falls-top : (m : ℕ) (p : List (Entry Tree)) → Falls m p → Top m p
falls-top m [] f = tt
falls-top m (down l s ∷ p) f = f.1
falls-top m (right l s ∷ p) f = f.1
falls-top m (pass c ∷ p) f = omega arith

-- THE PATH
module _ (m : ℕ) (X Y : List Column) (low : AtMost m X) (high : Taller m Y) where
  path_low : (c : Item) (R : List Column) → AtMost m R
      → entries_to c R (X ++ Y) ≡ down_entries trees Y ++ entries_to c R X
  path_low c [] a = downs_split trees m Y high X low
  path_low c (d ∷ R) a =
      ap (graft_entries c d.height) (path_low d.item R a.1)
      ∙ graft-under m c d.height (down_entries trees Y) (entries_to d.item R X) a.0 (downs-high trees m Y high)

  pub path_split : (c : Item) (A R : List Column) → AtMost m R → m ≤ last_height m A
      → entries_to c (A ++ R) (X ++ Y) ≡ entries_to c A Y ++ entries_to (last_of c A) R X
  path_split c [] R a k = path_low c R a
  path_split c (d ∷ []) R a k =
      ap (graft_entries c d.height) (path_low d.item R a)
      ∙ graft_front c d.height (down_entries trees Y) (entries_to d.item R X)
      (inr (top_up m d.height (entries_to d.item R X) k
      (falls-top m (entries_to d.item R X) (path_falls m d.item R X a low))))
  path_split c (d ∷ e ∷ A) R a k =
      ap (graft_entries c d.height) (path_split d.item (e ∷ A) R a k)
      ∙ graft_front c d.height (entries_to d.item (e ∷ A) Y) (entries_to (last_of d.item (e ∷ A)) R X)
      (inl (graft-goes d.item e.height (entries_to e.item A Y)))

-- THE COUNT
-- columns lower than a later one have no right entry
low_rights : (A B : List Column) → Below (tallest B) A
    → (tallest (A ++ B) ≡ tallest B) × (right_columns (A ++ B) ≡ right_columns B)
low_rights [] B k = (refl, refl)
low_rights (d ∷ A) B k = go (low_rights A B k.1)
  where
    go : (tallest (A ++ B) ≡ tallest B) × (right_columns (A ++ B) ≡ right_columns B)
        → (tallest (d ∷ (A ++ B)) ≡ tallest B) × (right_columns (d ∷ (A ++ B)) ≡ right_columns B)
    go ih = let t = lt-ltb d.height (tallest B) k.0 in (rw (ih.0, t), rw (ih.0, t) ih.1)

low_none : (m : ℕ) (X : List Column) → AtMost m X → down_columns m X ≡ []
low_none m [] a = refl
low_none m (d ∷ X) a = rw (le-ltb m d.height a.0) (low_none m X a.1)

tall-downs : (h m : ℕ) (Y : List Column) → h ≤ m → Taller m Y → down_columns h Y ≡ down_columns m Y
tall-downs h m [] k t = refl
tall-downs h m (d ∷ Y) k t = rw (lt-ltb h d.height (omega arith), lt-ltb m d.height t)

split_downs : (h m : ℕ) (X Y : List Column) → h ≤ m → AtMost m X → Taller m Y
    → down_columns h (X ++ Y) ≡ down_columns h X ++ down_columns m Y
split_downs h m [] Y k a t = tall-downs h m Y k t
split_downs h m (d ∷ X) Y k a t =
    go (order h d.height) (split_downs d.height m X Y a.0 a.1 t) (split_downs h m X Y k a.1 t)
  where
    go : (h < d.height) ⊎ (d.height ≤ h)
        → down_columns d.height (X ++ Y) ≡ down_columns d.height X ++ down_columns m Y
        → down_columns h (X ++ Y) ≡ down_columns h X ++ down_columns m Y
        → down_columns h (d ∷ (X ++ Y)) ≡ down_columns h (d ∷ X) ++ down_columns m Y
    go (inl i) u v = rw (lt-ltb h d.height i) (ap (λ r. d ∷ r) u)
    go (inr i) u v = rw (le-ltb h d.height i) v

-- the shared entries are those of the first part: A and R are the columns up to the earlier one, B those after it up to
-- the later one
pub shared_split : (c : Item) (A R B X Y : List Column) → Below (tallest B) R → AtMost (tallest B) X → Taller (tallest B) Y → tallest B ≤ last_height (tallest B) A
    → shared_count (A ++ R) B (X ++ Y) ≡ length (entries_to c A Y)
shared_split c A R B X Y below low_x high last =
    let m = tallest B in
    let low : AtMost m (R ++ B) = at_most-append m R B (below-at_most m m R (omega arith) below) (at_most-tallest B) in
    let all : length (entries_to c (A ++ (R ++ B)) (X ++ Y))
    ≡ length (entries_to c A Y) + length (entries_to (last_of c A) (R ++ B) X) =
    ap length (path_split m X Y low_x high c A (R ++ B) low last)
    ∙ length-append (entries_to c A Y) (entries_to (last_of c A) (R ++ B) X) in
    let downs : length (down_columns 0 (X ++ Y)) ≡ length (down_columns 0 X) + length (down_columns m Y) =
    ap length (split_downs 0 m X Y (omega arith) low_x high) ∙ length-append (down_columns 0 X) (down_columns m Y) in
    let above : down_columns m (X ++ Y) ≡ down_columns m Y =
    split_downs m m X Y (omega arith) low_x high ∙ ap (λ r. r ++ down_columns m Y) (low_none m X low_x) in
    rw (append_assoc A R B)
    (omega (
      arith,
      all,
      downs,
      ap length above,
      ap length (low_rights R B below).1,
      ap length (tall-downs 0 m Y (omega arith) high),
      path_count c (A ++ (R ++ B)) (X ++ Y),
      path_count c A Y,
      path_count (last_of c A) (R ++ B) X,
    ))
