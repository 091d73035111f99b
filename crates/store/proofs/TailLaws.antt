-- The path to a column, from its last entry to its first: the entry that goes right past a run of lower columns comes
-- before the entries found so far, and the down entries of higher levels come before both.
-- Assumes nothing.
use Prim.Native.Nat.{ℕ, zero, suc, ◌+◌, ◌-◌, ◌≤◌, ◌<◌}
use native.Mathlib.Omega.{arith}
use mathlib.Core.Path.{◌≡◌, refl, ap, ap₂, sym, ◌∙◌, subst}
use mathlib.Core.Logic.{◌⊎◌, inl, inr}
use mathlib.Core.Bool.{Bool, true, false, cond}
use mathlib.Core.List.{List, [], ◌∷◌, ◌++◌, map}
use lib.ListN.{length, length-map}
use lib.Dec.{ltb}
use borrow.Author.Tests.{lt-ltb, le-ltb}
use Rattle.skiplist.specs.Limits.{most_height}
use Rattle.skiplist.specs.Row.{Item, Column, Below}
use Rattle.skiplist.specs.Tree.{Tree, tree}
use Rattle.skiplist.specs.Sides.{side_of}
use Rattle.skiplist.specs.Entry.{Entry, down, right, pass, map_entry, level}
use Rattle.skiplist.specs.Merge.{merge}
use Rattle.skiplist.specs.Path.{crossing, graft_entries, right_entries}
use Rattle.skiplist.specs.Length.{tallest, right_columns}
use Rattle.skiplist.specs.Slots.{open_slots}
use Rattle.skiplist.specs.Blocks.{column, row}
use Rattle.skiplist.proofs.Cases.{order}
use Rattle.skiplist.proofs.MergeLaws.{Top, top_up, merge-down, merge_first}
use Rattle.skiplist.proofs.MapLaws.{level-map}
use Rattle.skiplist.proofs.LengthLaws.{right-levels, length-merge}
use Rattle.skiplist.proofs.BlockLaws.{row-append}
use Rattle.labels.specs.declared.Side.{Side}
use Rattle.labels.specs.CodeSides.{coded, vacant}
use Rattle.archive.specs.Reading.{height_at, block_at, blocks_from}
use Rattle.archive.proofs.RecordLaws.{no_blocks}
use Rattle.store.specs.Passes.{slot_of, item_at, run_of, nearest, span_of, cross_at, rights_at, tail_at}
use Rattle.store.proofs.RunLaws.{run_front, run_none}
use Rattle.store.proofs.EntryLaws.{span_none}

-- ---- the entry past a run of lower columns
past : Item → List Column → ℕ → Entry Tree
past c R zero = pass c
past c R (suc h) = right (suc h) (tree c R)

graft-crossing : (c : Item) (h : ℕ) (p : List (Entry Tree)) → Top h p → graft_entries c h p ≡ crossing c h ∷ p
graft-crossing c h [] t = refl
graft-crossing c h (down l s ∷ p) t = rw (le-ltb h l t)
graft-crossing c h (right l s ∷ p) t = rw (le-ltb h l t)
graft-crossing c h (pass d ∷ p) t = refl

crossing-past : (c : Item) (h : ℕ) → crossing c h ≡ past c [] h
unfolding tree past
crossing-past c zero = refl
crossing-past c (suc h) = refl

graft-past : (c : Item) (x : Column) (R : List Column) (h : ℕ) (p : List (Entry Tree)) → x.height < h
    → graft_entries c x.height (past x.item R h ∷ p) ≡ past c (x ∷ R) h ∷ p
unfolding tree past
graft-past c x R zero p k = absurd (omega arith)
graft-past c x R (suc h) p k = rw (lt-ltb x.height (suc h) k)

path_past : (c : Item) (R : List Column) (d : Column) (A : List Column) → Below d.height R
    → Top d.height (right_entries d.item A)
    → right_entries c (R ++ d ∷ A) ≡ past c R d.height ∷ right_entries d.item A
path_past c [] d A r t =
    graft-crossing c d.height (right_entries d.item A) t
    ∙ ap (λ e. e ∷ right_entries d.item A) (crossing-past c d.height)
path_past c (x ∷ R) d A r t =
    rw (path_past x.item R d A r.1 t) (graft-past c x R d.height (right_entries d.item A) r.0)

-- ---- runs taken apart
run_split : (b : List ℕ) (i k n m j : ℕ) → m ≡ i + k → n ≡ j + (k + 1)
    → blocks_from b i n ≡ blocks_from b i k ++ block_at b m ∷ blocks_from b (m + 1) j
unfolding blocks_from
run_split b i zero n m j em en =
    let e : n ≡ suc j = omega arith in
    let f : m ≡ i = omega arith in
    let g : i + 1 ≡ suc i = omega arith in
    rw (e, f, g)
run_split b i (suc k) n m j em en =
    let e : n ≡ suc (j + (k + 1)) = omega arith in
    rw e (ap (λ q. block_at b i ∷ q) (run_split b (suc i) k (j + (k + 1)) m j (omega arith) refl))

below-append : (h : ℕ) (A B : List Column) → Below h A → Below h B → Below h (A ++ B)
below-append h [] B a c = c
below-append h (d ∷ A) B a c = (a.0, below-append h A B a.1 c)

-- what the nearest column at or before column m is
pub record Nearest (b : List ℕ) (h m i : ℕ) : Type 0 where
  pub before : i ≤ m
  pub lower : Below h (run_of b i m)
  pub high : 0 < i → h ≤ height_at b (i - 1)

pub nearest_is : (b : List ℕ) (h m : ℕ) → Nearest b h m (nearest b h m)
unfolding nearest blocks_from
nearest_is b h zero = record { before = omega arith; lower = tt; high = λ k. absurd (omega arith) }
nearest_is b h (suc j) = go (order (height_at b j) h) (nearest_is b h j)
  where
    go : (height_at b j < h) ⊎ (h ≤ height_at b j) → Nearest b h j (nearest b h j)
        → Nearest b h (suc j) (nearest b h (suc j))
    go (inl k) n =
        let i = nearest b h j in
        let w : blocks_from b i (suc j - i) ≡ blocks_from b i (j - i) ++ block_at b j ∷ [] =
        run_split b i (j - i) (suc j - i) j 0 (omega (arith, n.before)) (omega (arith, n.before)) in
        rw (lt-ltb (height_at b j) h k) (record {
          before = omega (arith, n.before);
          lower = rw (w, ← (row-append (blocks_from b i (j - i)) (block_at b j ∷ [])))
              (below-append h (run_of b i j) (row (block_at b j ∷ [])) n.lower (k, tt));
          high = n.high;
        })
    go (inr k) n =
        let z : suc j - suc j ≡ 0 = omega arith in
        let y : suc j - 1 ≡ j = omega arith in
        rw (le-ltb (height_at b j) h k) (record { before = omega arith; lower = rw z tt; high = λ q. rw y k })

-- a column that is tall enough is not passed
pub nearest_after : (b : List ℕ) (h m a : ℕ) → a ≤ m → (0 < a → h ≤ height_at b (a - 1)) → a ≤ nearest b h m
unfolding nearest
nearest_after b h zero a k t = k
nearest_after b h (suc m) a k t = go (order (height_at b m) h) (order m a) (λ q. nearest_after b h m a q t)
  where
    go : (height_at b m < h) ⊎ (h ≤ height_at b m) → (m < a) ⊎ (a ≤ m) → (a ≤ m → a ≤ nearest b h m)
        → a ≤ nearest b h (suc m)
    go (inl x) (inl y) ih =
        let e : a - 1 ≡ m = omega arith in absurd (omega (arith, x, rw e at (t (omega arith))))
    go (inl x) (inr y) ih = rw (lt-ltb (height_at b m) h x) (ih y)
    go (inr x) y ih = rw (le-ltb (height_at b m) h x) k

top-map : {S R : Type 0} (f : S → R) (h : ℕ) (p : List (Entry S)) → Top h (map (map_entry f) p) → Top h p
top-map f h [] t = tt
top-map f h (e ∷ p) t = omega (arith, level-map f e, t)

past_code : (b : List ℕ) (i m h : ℕ) → map_entry (side_of coded) (past (item_at b i) (run_of b i m) h) ≡ cross_at b i m h
unfolding cross_at past
past_code b i m zero = refl
past_code b i m (suc h) = refl

pub cross-level : (b : List ℕ) (i m h : ℕ) → level (cross_at b i m h) ≡ h
unfolding cross_at
cross-level b i m zero = refl
cross-level b i m (suc h) = refl

-- ---- one right entry more
pub rights_next : (b : List ℕ) (p a h i : ℕ) → 0 < a → a ≤ p → h ≡ height_at b (a - 1) → i ≡ nearest b h (a - 1)
    → Top h (rights_at b p a)
    → rights_at b p i ≡ cross_at b i (a - 1) h ∷ rights_at b p a
unfolding rights_at
rights_next b p a h i ka kp eh ei t =
    let m = a - 1 in
    let n : Nearest b h m i = rw ei (nearest_is b h m) in
    let ea : m + 1 ≡ a = omega arith in
    let es : a ≡ suc m = omega arith in
    let R = run_of b i m in
    let A = run_of b a p in
    let d = column (block_at b m) in
    let sp : blocks_from b i (p - i) ≡ blocks_from b i (m - i) ++ block_at b m ∷ blocks_from b a (p - a) =
    run_split b i (m - i) (p - i) m (p - a) (omega (arith, n.before)) (omega (arith, n.before))
    ∙ ap (λ (q : ℕ). blocks_from b i (m - i) ++ block_at b m ∷ blocks_from b q (p - a)) ea in
    let rs : run_of b i p ≡ R ++ d ∷ A = ap row sp ∙ sym (row-append (blocks_from b i (m - i))
    (block_at b m ∷ blocks_from b a (p - a))) in
    let it : item_at b a ≡ d.item = ap (item_at b) es in
    let u : Top d.height (right_entries d.item A) =
    subst (λ (x : Item). Top d.height (right_entries x A)) it
    (rw eh at (top-map (side_of coded) h (right_entries (item_at b a) A) t)) in
    ap (λ q. map (map_entry (side_of coded)) (right_entries (item_at b i) q)) rs
    ∙ ap (map (map_entry (side_of coded))) (path_past (item_at b i) R d A (rw eh at n.lower) u)
    ∙ ap₂ (λ x y. x ∷ map (map_entry (side_of coded)) (right_entries y A)) (rw (← eh) (past_code b i m h)) (sym it)

pub rights_none : (b : List ℕ) (p : ℕ) → rights_at b p p ≡ []
unfolding rights_at
rights_none b p = rw (run_none b p p (omega arith), no_blocks b p)

-- ---- down entries of higher levels come before
open-top : (s : List Side) (h : ℕ) → Top h (open_slots coded vacant s h)
unfolding open_slots
open-top s zero = tt
open-top s (suc l) = go (vacant (slot_of s (suc l))) (open-top s l)
  where
    go : (b : Bool) → Top l (open_slots coded vacant s l)
        → Top (suc l) (cond b (open_slots coded vacant s l) (down (suc l) (slot_of s (suc l)) ∷ open_slots coded vacant s
        l))
    go true ih = top_up l (suc l) (open_slots coded vacant s l) (omega arith) ih
    go false ih = omega arith

merge-span : (s : List Side) (es : List (Entry Side)) (l m : ℕ) → Top l es → l ≤ m
    → merge es (open_slots coded vacant s m) ≡ span_of s l m ++ merge es (open_slots coded vacant s l)
unfolding span_of open_slots
merge-span s es l zero t k = let e : l ≡ 0 = omega arith in rw e
merge-span s es l (suc m) t k = go (order m l) (λ q. merge-span s es l m t q)
  where
    more : l ≤ m → (b : Bool) → merge es (open_slots coded vacant s m)
        ≡ span_of s l m ++ merge es (open_slots coded vacant s l)
        → merge es (cond b (open_slots coded vacant s m) (down (suc m) (slot_of s (suc m)) ∷ open_slots coded vacant s m))
        ≡ (cond b [] (down (suc m) (slot_of s (suc m)) ∷ []) ++ span_of s l m) ++ merge es (open_slots coded vacant s l)
    more q true ih = ih
    more q false ih =
        merge-down (suc m) (slot_of s (suc m)) es (open_slots coded vacant s m) (omega arith) (top_up l m es q t)
        ∙ ap (λ w. down (suc m) (slot_of s (suc m)) ∷ w) ih

    go : (m < l) ⊎ (l ≤ m)
        → (l ≤ m → merge es (open_slots coded vacant s m) ≡ span_of s l m ++ merge es (open_slots coded vacant s l))
        → merge es (open_slots coded vacant s (suc m)) ≡ span_of s l (suc m) ++ merge es (open_slots coded vacant s l)
    go (inl q) ih = let e : l ≡ suc m = omega arith in rw (span_none s l (suc m) (omega arith), e)
    go (inr q) ih = rw (lt-ltb l (suc m) (omega arith)) (more q (vacant (slot_of s (suc m))) (ih q))

pub tail-span : (b : List ℕ) (s : List Side) (p a l h : ℕ) → Top l (rights_at b p a) → l ≤ h
    → tail_at b s p a h ≡ span_of s l h ++ tail_at b s p a l
unfolding tail_at
tail-span b s p a l h t k = merge-span s (rights_at b p a) l h t k

tail_first : (b : List ℕ) (s : List Side) (p a h i : ℕ) → 0 < a → a ≤ p → h ≡ height_at b (a - 1) → i
    ≡ nearest b h (a - 1)
    → Top h (rights_at b p a) → tail_at b s p i h ≡ cross_at b i (a - 1) h ∷ tail_at b s p a h
unfolding tail_at
tail_first b s p a h i ka kp eh ei t =
    rw (rights_next b p a h i ka kp eh ei t)
    (merge_first (cross_at b i (a - 1) h) (rights_at b p a) (open_slots coded vacant s h)
    (rw (cross-level b i (a - 1) h) (open-top s h)))

pub tail_next : (b : List ℕ) (s : List Side) (p a l h i : ℕ) → 0 < a → a ≤ p → h ≡ height_at b (a - 1) → i
    ≡ nearest b h (a - 1)
    → Top l (rights_at b p a) → l ≤ h → tail_at b s p i h ≡ cross_at b i (a - 1) h ∷ (span_of s l h ++ tail_at b s p a l)
tail_next b s p a l h i ka kp eh ei t k =
    tail_first b s p a h i ka kp eh ei (top_up l h (rights_at b p a) k t)
    ∙ ap (λ q. cross_at b i (a - 1) h ∷ q) (tail-span b s p a l h t k)

-- ---- how many there are
rights_count : (b : List ℕ) (p a : ℕ) → length (rights_at b p a) ≡ length (right_columns (run_of b a p))
unfolding rights_at
rights_count b p a =
    let es = right_entries (item_at b a) (run_of b a p) in
    length-map es (map_entry (side_of coded))
    ∙ sym (length-map es level)
    ∙ ap length (right-levels (item_at b a) (run_of b a p))
    ∙ length-map (right_columns (run_of b a p)) (λ d. d.height)

rights_more : (d : Column) (A : List Column) → length (right_columns A) ≤ length (right_columns (d ∷ A))
rights_more d A = go (ltb d.height (tallest A))
  where
    go : (c : Bool) → length (right_columns A) ≤ length (cond c (right_columns A) (d ∷ right_columns A))
    go true = omega arith
    go false = omega arith

rights_le : (b : List ℕ) (p f a : ℕ) → f ≤ a → a ≤ p
    → length (right_columns (run_of b a p)) ≤ length (right_columns (run_of b f p))
rights_le b p f zero j k = let e : f ≡ 0 = omega arith in rw e (omega arith)
rights_le b p f (suc a) j k = go (order a f) (λ q. rights_le b p f a q (omega arith))
  where
    go : (a < f) ⊎ (f ≤ a)
        → (f ≤ a → length (right_columns (run_of b a p)) ≤ length (right_columns (run_of b f p)))
        → length (right_columns (run_of b (suc a) p)) ≤ length (right_columns (run_of b f p))
    go (inl q) ih = let e : f ≡ suc a = omega arith in rw e (omega arith)
    go (inr q) ih =
        let z : suc a - 1 ≡ a = omega arith in
        let e : blocks_from b a (p - a) ≡ block_at b a ∷ blocks_from b (suc a) (p - suc a) = rw z at
        (run_front b (suc a) p (omega arith) k) in
        let g : length (right_columns (run_of b (suc a) p)) ≤ length (right_columns (run_of b a p)) =
        rw e (rights_more (column (block_at b a)) (run_of b (suc a) p)) in
        omega (arith, g, ih q)

opens_le : (s : List Side) (l h : ℕ) → l ≤ h → length (open_slots coded vacant s l) ≤ length (open_slots coded vacant s h)
unfolding open_slots
opens_le s l zero k = let e : l ≡ 0 = omega arith in rw e (omega arith)
opens_le s l (suc h) k = go (order h l) (vacant (slot_of s (suc h))) (λ q. opens_le s l h q)
  where
    more : (b : Bool) → length (open_slots coded vacant s h)
        ≤ length (cond b (open_slots coded vacant s h) (down (suc h) (slot_of s (suc h)) ∷ open_slots coded vacant s h))
    more true = omega arith
    more false = omega arith

    go : (h < l) ⊎ (l ≤ h) → (b : Bool) → (l ≤ h → length (open_slots coded vacant s l) ≤ length
        (open_slots coded vacant s h))
        → length (open_slots coded vacant s l) ≤ length (open_slots coded vacant s (suc h))
    go (inl q) b ih = let e : l ≡ suc h = omega arith in rw e (omega arith)
    go (inr q) b ih = omega (arith, ih q, more (vacant (slot_of s (suc h))))

pub tail-le : (b : List ℕ) (s : List Side) (p f a l : ℕ) → f ≤ a → a ≤ p → l ≤ most_height
    → length (tail_at b s p a l) ≤ length (tail_at b s p f most_height)
unfolding tail_at
tail-le b s p f a l kf ka kl =
    rw (
      length-merge (rights_at b p a) (open_slots coded vacant s l),
      length-merge (rights_at b p f)
          (open_slots coded vacant s most_height),
    )
    (omega (arith, rights_count b p a, rights_count b p f, rights_le b p f a kf ka, opens_le s l most_height kl))
