-- The levels of a path's right entries are the heights of the columns with no taller one after them, those of its
-- down entries the heights of the columns taller than all before them, the last first. So heights alone give the
-- number of entries, and its bound.
use Prim.Native.Nat.{ℕ, zero, suc, pred, ◌+◌, ◌≤◌, ◌<◌, min}
use native.Mathlib.Omega.{arith}
use mathlib.Core.Path.{◌≡◌, refl, ap, ap₂, sym, ◌∙◌}
use mathlib.Core.Logic.{◌⊎◌, inl, inr}
use mathlib.Core.Bool.{Bool, true, false, cond}
use mathlib.Core.List.{List, [], ◌∷◌, ◌++◌, map, reverse, reverse_aux-eq, append-nil}
use lib.Dec.{ltb, leb}
use lib.ListN.{length, length-map, length-reverse}
use borrow.Author.Tests.{lt-ltb, le-ltb}
use Rattle.skiplist.specs.Row.{Item, Column, AtMost}
use Rattle.skiplist.specs.Tree.{Tree}
use Rattle.skiplist.specs.Sides.{Sides, trees}
use Rattle.skiplist.specs.Entry.{Entry, down, right, pass, level, Falls}
use Rattle.skiplist.specs.Merge.{downs, merge}
use Rattle.skiplist.specs.Path.{opened, closed, stop_side, down_entries, crossing, graft_entries, entries_to}
use Rattle.skiplist.specs.Path.{right_entries}
use Rattle.skiplist.specs.Length.{tallest, right_columns, down_columns, entry_count}
use Rattle.skiplist.proofs.Cases.{order, never}
use Rattle.skiplist.proofs.DownLaws.{AllDown, entries_down}
use Rattle.skiplist.proofs.PathLaws.{downs_fall}
use Rattle.skiplist.proofs.MergeLaws.{downs_path, path_merge}

abbrev pub levels : {S : Type 0} → List (Entry S) → List ℕ
levels p = map level p

abbrev pub heights : List Column → List ℕ
heights A = map (λ d. d.height) A

-- RIGHT ENTRIES
abbrev first : List ℕ → ℕ
first [] = 0
first (n ∷ ns) = n

first-tallest : (A : List Column) → first (heights (right_columns A)) ≡ tallest A
first-tallest [] = refl
first-tallest (d ∷ A) = go (ltb d.height (tallest A)) (first-tallest A)
  where
    go : (b : Bool) → first (heights (right_columns A)) ≡ tallest A
        → first (heights (cond b (right_columns A) (d ∷ right_columns A))) ≡ cond b (tallest A) d.height
    go true ih = ih
    go false ih = refl

crossing-levels : (c : Item) (h : ℕ) (p : List (Entry Tree)) → levels (crossing c h ∷ p) ≡ h ∷ levels p
crossing-levels c zero p = refl
crossing-levels c (suc h) p = refl

graft-levels : (c : Item) (h : ℕ) (p : List (Entry Tree)) → downs p ≡ []
    → levels (graft_entries c h p) ≡ cond (ltb h (first (levels p))) (levels p) (h ∷ levels p)
graft-levels c h [] n = rw (le-ltb h 0 (omega arith)) (crossing-levels c h [])
graft-levels c h (down l s ∷ p) n = never cc
graft-levels c h (right l s ∷ p) n = go (order h l)
  where
    go : (h < l) ⊎ (l ≤ h) → levels (graft_entries c h (right l s ∷ p)) ≡ cond (ltb h l) (l ∷ levels p) (h ∷ l ∷ levels p)
    go (inl k) = rw (lt-ltb h l k)
    go (inr k) = rw (le-ltb h l k) (crossing-levels c h (right l s ∷ p))
graft-levels c h (pass d ∷ p) n = rw (le-ltb h 0 (omega arith)) (crossing-levels c h (pass d ∷ p))

pub right-levels : (c : Item) (A : List Column) → levels (right_entries c A) ≡ heights (right_columns A)
right-levels c [] = refl
right-levels c (d ∷ A) =
    graft-levels c d.height (right_entries d.item A) (downs_path d.item A [])
    ∙ ap (λ ns. cond (ltb d.height (first ns)) ns (d.height ∷ ns)) (right-levels d.item A)
    ∙ rw (first-tallest A) (go (ltb d.height (tallest A)))
  where
    go : (b : Bool) → cond b (heights (right_columns A)) (d.height ∷ heights (right_columns A))
        ≡ heights (cond b (right_columns A) (d ∷ right_columns A))
    go true = refl
    go false = refl

-- DOWN ENTRIES: those above the level m
abbrev above : ℕ → List ℕ → List ℕ
above m [] = []
above m (n ∷ ns) = cond (ltb m n) (n ∷ above m ns) (above m ns)

above-append : (m : ℕ) (ns ks : List ℕ) → above m (ns ++ ks) ≡ above m ns ++ above m ks
above-append m [] ks = refl
above-append m (n ∷ ns) ks = rw (above-append m ns ks) (go (ltb m n))
  where
    go : (b : Bool) → cond b (n ∷ (above m ns ++ above m ks)) (above m ns ++ above m ks)
        ≡ cond b (n ∷ above m ns) (above m ns) ++ above m ks
    go true = refl
    go false = refl

-- the higher of two levels counts
above_low : (m h : ℕ) (ns : List ℕ) → m ≤ h → above m (above h ns) ≡ above h ns
above_low m h [] k = refl
above_low m h (n ∷ ns) k = go (order h n) (above_low m h ns k)
  where
    go : (h < n) ⊎ (n ≤ h) → above m (above h ns) ≡ above h ns → above m (above h (n ∷ ns)) ≡ above h (n ∷ ns)
    go (inl e) ih = rw (lt-ltb h n e, lt-ltb m n (omega arith), ih)
    go (inr e) ih = rw (le-ltb h n e) ih

above_high : (m h : ℕ) (ns : List ℕ) → h ≤ m → above m (above h ns) ≡ above m ns
above_high m h [] k = refl
above_high m h (n ∷ ns) k = go (order h n) (above_high m h ns k)
  where
    go : (h < n) ⊎ (n ≤ h) → above m (above h ns) ≡ above m ns → above m (above h (n ∷ ns)) ≡ above m (n ∷ ns)
    go (inl e) ih = rw (lt-ltb h n e, ih)
    go (inr e) ih = rw (le-ltb h n e, le-ltb m n (omega arith)) ih

module _ {S : Type 0} (𝓢 : Sides S) where
  above_none : (b m : ℕ) (p : List (Entry S)) → AllDown p → Falls b p → b ≤ m → above m (levels p) ≡ []
  above_none b m [] a f k = refl
  above_none b m (down l s ∷ p) a f k = rw (le-ltb m l (omega (arith, f.1)))
      (above_none (pred l) m p a.1 f.2 (omega (arith, f.1)))
  above_none b m (right l s ∷ p) a f k = absurd a
  above_none b m (pass c ∷ p) a f k = absurd a

  above_all : (p : List (Entry S)) → AllDown p → above 0 (levels p) ≡ levels p
  above_all [] a = refl
  above_all (down l s ∷ p) a = rw (lt-ltb 0 l (omega (arith, a.0)), above_all p a.1)
  above_all (right l s ∷ p) a = absurd a
  above_all (pass c ∷ p) a = absurd a

  opened-levels : (h : ℕ) (t : S) → levels (opened 𝓢 h t) ≡ above 0 (h ∷ [])
  opened-levels zero t = refl
  opened-levels (suc h) t = rw (lt-ltb 0 (suc h) (omega arith))

  closed-levels : (b h : ℕ) (t : S) (p : List (Entry S)) → AllDown p → Falls b p
      → levels (closed 𝓢 h t p) ≡ above h (levels p) ++ above 0 (h ∷ [])
  closed-levels b h t [] a f = opened-levels h t
  closed-levels b h t (down l s ∷ p) a f = go (order h l) (closed-levels (pred l) h t p a.1 f.2)
    where
      go : (h < l) ⊎ (l ≤ h) → levels (closed 𝓢 h t p) ≡ above h (levels p) ++ above 0 (h ∷ [])
          → levels (closed 𝓢 h t (down l s ∷ p)) ≡ above h (l ∷ levels p) ++ above 0 (h ∷ [])
      go (inl k) ih = rw (lt-ltb h l k, ih)
      go (inr k) ih = rw (le-ltb h l k, above_none (pred l) h p a.1 f.2 (omega arith)) (opened-levels h _)
  closed-levels b h t (right l s ∷ p) a f = absurd a
  closed-levels b h t (pass c ∷ p) a f = absurd a

  above-downs : (b m : ℕ) (B : List Column) → AtMost b B
      → above m (levels (down_entries 𝓢 B)) ≡ reverse (heights (down_columns m B))
  above-downs b m [] a = refl
  above-downs b m (d ∷ B) a =
      ap (above m) (closed-levels b h (𝓢.leaf d.item (stop_side 𝓢 B)) (down_entries 𝓢 B) (entries_down 𝓢 B)
      (downs_fall 𝓢 b B a.1))
      ∙ above-append m (above h ns) (above 0 (h ∷ [])) ∙ go (order m h) (λ g. above-downs b g B a.1)
    where
      h : ℕ
      h = d.height

      ns : List ℕ
      ns = levels (down_entries 𝓢 B)

      go : (m < h) ⊎ (h ≤ m) → ((g : ℕ) → above g ns ≡ reverse (heights (down_columns g B)))
          → above m (above h ns) ++ above m (above 0 (h ∷ [])) ≡ reverse (heights (down_columns m (d ∷ B)))
      go (inl k) ih = rw (lt-ltb m h k, lt-ltb 0 h (omega arith), lt-ltb m h k, above_low m h ns (omega arith), ih h)
          (sym (reverse_aux-eq (heights (down_columns h B)) (h ∷ [])))
      go (inr k) ih =
          let none : above m (above 0 (h ∷ [])) ≡ [] = above_high m 0 (h ∷ []) (omega arith) ∙ rw (le-ltb m h k) in
          rw (le-ltb m h k, none, above_high m h ns k, ih m) (append-nil (reverse (heights (down_columns m B))))

  pub down-levels : (b : ℕ) (B : List Column) → AtMost b B
      → levels (down_entries 𝓢 B) ≡ reverse (heights (down_columns 0 B))
  down-levels b B a = sym (above_all (down_entries 𝓢 B) (entries_down 𝓢 B)) ∙ above-downs b 0 B a

-- THE NUMBER OF ENTRIES
pub length-merge : {S : Type 0} (es ds : List (Entry S)) → length (merge es ds) ≡ length es + length ds
length-merge [] ds = omega arith
length-merge (e ∷ es) [] = omega arith
length-merge (e ∷ es) (d ∷ ds) = go (leb (level d) (level e)) (length-merge es (d ∷ ds)) (length-merge (e ∷ es) ds)
  where
    go : (b : Bool) → length (merge es (d ∷ ds)) ≡ length es + length (d ∷ ds)
        → length (merge (e ∷ es) ds) ≡ length (e ∷ es) + length ds
        → length (cond b (e ∷ merge es (d ∷ ds)) (d ∷ merge (e ∷ es) ds)) ≡ length (e ∷ es) + length (d ∷ ds)
    go true u v = omega (arith, u)
    go false u v = omega (arith, v)

pub path_length : (b : ℕ) (c : Item) (A B : List Column) → AtMost b A → AtMost b B
    → length (entries_to c A B) ≡ entry_count A B
path_length b c A B low_a low_b =
    ap length (path_merge b c A B low_a low_b) ∙ length-merge (right_entries c A) (down_entries trees B)
    ∙ ap₂ ◌+◌ right_count down_count
  where
    right_count : length (right_entries c A) ≡ length (right_columns A)
    right_count = sym (length-map (right_entries c A) level) ∙ ap length (right-levels c A)
        ∙ length-map (right_columns A) (λ d. d.height)

    down_count : length (down_entries trees B) ≡ length (down_columns 0 B)
    down_count =
        sym (length-map (down_entries trees B) level) ∙ ap length (down-levels trees b B low_b)
        ∙ length-reverse (heights (down_columns 0 B)) ∙ length-map (down_columns 0 B) (λ d. d.height)

-- ITS BOUND
right_few : (A : List Column) → length (right_columns A) ≤ length A
right_few [] = omega arith
right_few (d ∷ A) = go (ltb d.height (tallest A)) (right_few A)
  where
    go : (b : Bool) → length (right_columns A) ≤ length A
        → length (cond b (right_columns A) (d ∷ right_columns A)) ≤ length (d ∷ A)
    go true ih = omega arith
    go false ih = omega arith

down_few : (h : ℕ) (B : List Column) → length (down_columns h B) ≤ length B
down_few h [] = omega arith
down_few h (d ∷ B) = go (ltb h d.height) (down_few d.height B) (down_few h B)
  where
    go : (b : Bool) → length (down_columns d.height B) ≤ length B → length (down_columns h B) ≤ length B
        → length (cond b (d ∷ down_columns d.height B) (down_columns h B)) ≤ length (d ∷ B)
    go true u v = omega arith
    go false u v = omega arith

down_low : (b h : ℕ) (B : List Column) → AtMost b B → h ≤ b → h + length (down_columns h B) ≤ b
down_low b h [] a k = omega arith
down_low b h (d ∷ B) a k = go (order h d.height) (down_low b d.height B a.1 a.0) (down_low b h B a.1 k)
  where
    go : (h < d.height) ⊎ (d.height ≤ h) → d.height + length (down_columns d.height B) ≤ b
        → h + length (down_columns h B) ≤ b
        → h + length (down_columns h (d ∷ B)) ≤ b
    go (inl e) u v = rw (lt-ltb h d.height e) (omega arith)
    go (inr e) u v = rw (le-ltb h d.height e) v

pub count_bound : (b : ℕ) (A B : List Column) → AtMost b B → entry_count A B ≤ length A + min b (length B)
count_bound b A B a = omega (arith, right_few A, down_few 0 B, down_low b 0 B a (omega arith))
