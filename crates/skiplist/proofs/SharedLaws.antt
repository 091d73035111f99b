-- The paths to two columns of one row share the entries that heights say and part after them: the path to the earlier
-- one stops or goes down, the path to the later one goes right. Each column in front of the run between the two closes
-- the first path and grafts the second, each column in front of both grafts both alike.
use Prim.Native.Nat.{ℕ, zero, suc, ◌+◌, ◌-◌, ◌≤◌, ◌<◌}
use native.Mathlib.Omega.{arith}
use mathlib.Core.Path.{◌≡◌, refl, ap, sym, ◌∙◌, subst}
use mathlib.Core.Logic.{◌⊎◌, inl, inr}
use mathlib.Core.Bool.{Bool, true, false, cond}
use mathlib.Core.List.{List, [], ◌∷◌, ◌++◌, map, map-append, append_assoc, append-nil}
use lib.Dec.{ltb}
use lib.ListN.{length, take, drop, length-append, length-map, length-drop, take-append-drop}
use lib.Seq.{take_at, drop_at, length-take-le, drop-drop}
use borrow.Author.Tests.{lt-ltb, le-ltb}
use Rattle.skiplist.specs.Row.{Item, Column, AtMost}
use Rattle.skiplist.specs.Tree.{Tree, leaf, tree}
use Rattle.skiplist.specs.Sides.{Sides, trees}
use Rattle.skiplist.specs.Entry.{Entry, down, right, pass, map_entry, level}
use Rattle.skiplist.specs.Path.{opened, closed, stop_side, down_entries, crossing, graft_entries, entries_to, place}
use Rattle.skiplist.specs.Length.{tallest, right_columns, down_columns, entry_count}
use Rattle.skiplist.specs.Sharing.{shared_count, Stays, Crosses, Parted}
use Rattle.skiplist.specs.Find.{walk}
use Rattle.skiplist.specs.Leaves.{AllFit}
use Rattle.skiplist.specs.Blocks.{Block, head, column, row, way_to}
use Rattle.skiplist.proofs.Cases.{order}
use Rattle.skiplist.proofs.Runs.{at_most_up, at_most_left, at_most-right}
use Rattle.skiplist.proofs.DownLaws.{AllDown, entries_down}
use Rattle.skiplist.proofs.FindLaws.{walk-row, find_is_walk, proves-holds}
use Rattle.skiplist.proofs.LengthLaws.{path_length}
use Rattle.skiplist.proofs.BlockLaws.{row-append, row_cut, place_at, place-proves}

-- HEIGHTS
tallest_covers : (d : Column) (R : List Column) → (d.height ≤ tallest (d ∷ R)) × (tallest R ≤ tallest (d ∷ R))
tallest_covers d R = go (order d.height (tallest R))
  where
    go : (d.height < tallest R) ⊎ (tallest R ≤ d.height)
        → (d.height ≤ tallest (d ∷ R)) × (tallest R ≤ tallest (d ∷ R))
    go (inl k) = rw (lt-ltb d.height (tallest R) k) (omega arith, omega arith)
    go (inr k) = rw (le-ltb d.height (tallest R) k) (omega arith, omega arith)

pub at_most-tallest : (R : List Column) → AtMost (tallest R) R
at_most-tallest [] = tt
at_most-tallest (d ∷ R) =
    let k = tallest_covers d R in (k.0, at_most_up (tallest R) (tallest (d ∷ R)) R k.1 (at_most-tallest R))

-- a run of heights up to h has no down columns above h
low_downs : (h : ℕ) (B C : List Column) → AtMost h B → down_columns h (B ++ C) ≡ down_columns h C
low_downs h [] C a = refl
low_downs h (d ∷ B) C a = rw (le-ltb h d.height a.0) (low_downs h B C a.1)

more_rights : (A B : List Column) → length (right_columns B) ≤ length (right_columns (A ++ B))
more_rights [] B = omega arith
more_rights (d ∷ A) B = go (ltb d.height (tallest (A ++ B))) (more_rights A B)
  where
    go : (b : Bool) → length (right_columns B) ≤ length (right_columns (A ++ B))
        → length (right_columns B) ≤ length (cond b (right_columns (A ++ B)) (d ∷ right_columns (A ++ B)))
    go true k = k
    go false k = omega arith

-- THE FIRST ENTRIES of a level above h
abbrev higher : {S : Type 0} → ℕ → List (Entry S) → ℕ
higher h [] = 0
higher h (e ∷ p) = cond (ltb h (level e)) (suc (higher h p)) 0

module _ {S : Type 0} (𝓢 : Sides S) where
  opened_low : (h g : ℕ) (t : S) → g ≤ h → higher h (opened 𝓢 g t) ≡ 0
  opened_low h zero t k = refl
  opened_low h (suc g) t k = rw (le-ltb h (suc g) k)

  opened-high : (h g : ℕ) (t : S) → h < g → higher h (opened 𝓢 g t) ≡ 1
  opened-high h zero t k = absurd (omega arith)
  opened-high h (suc g) t k = rw (lt-ltb h (suc g) k)

  higher-closed : (h g : ℕ) (t : S) (p : List (Entry S)) → g ≤ h → higher h (closed 𝓢 g t p) ≡ higher h p
  higher-closed h g t [] k = opened_low h g t k
  higher-closed h g t (e ∷ p) k = go (order g (level e)) (higher-closed h g t p k)
    where
      go : (g < level e) ⊎ (level e ≤ g) → higher h (closed 𝓢 g t p) ≡ higher h p
          → higher h (closed 𝓢 g t (e ∷ p)) ≡ higher h (e ∷ p)
      go (inl i) ih = rw (lt-ltb g (level e) i, ih)
      go (inr i) ih = rw (le-ltb g (level e) i, le-ltb h (level e) (omega arith)) (opened_low h g _ k)

  higher_raised : (h g : ℕ) (t : S) (p : List (Entry S)) → h < g → higher h (closed 𝓢 g t p) ≡ suc (higher g p)
  higher_raised h g t [] k = opened-high h g t k
  higher_raised h g t (e ∷ p) k = go (order g (level e)) (higher_raised h g t p k)
    where
      go : (g < level e) ⊎ (level e ≤ g) → higher h (closed 𝓢 g t p) ≡ suc (higher g p)
          → higher h (closed 𝓢 g t (e ∷ p)) ≡ suc (higher g (e ∷ p))
      go (inl i) ih = rw (lt-ltb g (level e) i, lt-ltb h (level e) (omega arith), ih)
      go (inr i) ih = rw (le-ltb g (level e) i) (opened-high h g _ k)

  higher-downs : (h : ℕ) (C : List Column) → higher h (down_entries 𝓢 C) ≡ length (down_columns h C)
  higher-downs h [] = refl
  higher-downs h (d ∷ C) = go (order h d.height) (higher-downs h C) (higher-downs d.height C)
    where
      go : (h < d.height) ⊎ (d.height ≤ h) → higher h (down_entries 𝓢 C) ≡ length (down_columns h C)
          → higher d.height (down_entries 𝓢 C) ≡ length (down_columns d.height C)
          → higher h (down_entries 𝓢 (d ∷ C)) ≡ length (down_columns h (d ∷ C))
      go (inl k) low high = rw (lt-ltb h d.height k) (higher_raised h d.height _ (down_entries 𝓢 C) k ∙ ap suc high)
      go (inr k) low high = rw (le-ltb h d.height k) (higher-closed h d.height _ (down_entries 𝓢 C) k ∙ low)

-- ANY PATHS
module _ {S : Type 0} where
  at_once : {p q : List (Entry S)} → Stays p → Crosses q → Parted p q 0
  at_once {p} {q} s x = record {
    common = [];
    stays = p;
    crosses = q;
    first = refl;
    second = refl;
    size = refl;
    stay = s;
    cross = x;
  }

  one_more : (e : Entry S) {p q : List (Entry S)} {n : ℕ} → Parted p q n → Parted (e ∷ p) (e ∷ q) (suc n)
  one_more e z = record {
    common = e ∷ z.common;
    stays = z.stays;
    crosses = z.crosses;
    first = ap (λ r. e ∷ r) z.first;
    second = ap (λ r. e ∷ r) z.second;
    size = ap suc z.size;
    stay = z.stay;
    cross = z.cross;
  }

  -- the shared entries are no more than either path has
  parted_few : {p q : List (Entry S)} {n : ℕ} → Parted p q n → (n ≤ length p) × (n ≤ length q)
  parted_few z = (
    omega (arith, z.size, ap length z.first, length-append z.common z.stays),
    omega (arith, z.size, ap length z.second, length-append z.common z.crosses),
  )

module _ {S R : Type 0} (f : S → R) where
  stays-map : (p : List (Entry S)) → Stays p → Stays (map (map_entry f) p)
  stays-map [] s = tt
  stays-map (down l t ∷ p) s = tt
  stays-map (right l t ∷ p) s = absurd s
  stays-map (pass c ∷ p) s = absurd s

  crosses-map : (p : List (Entry S)) → Crosses p → Crosses (map (map_entry f) p)
  crosses-map [] x = absurd x
  crosses-map (down l t ∷ p) x = absurd x
  crosses-map (right l t ∷ p) x = tt
  crosses-map (pass c ∷ p) x = tt

  pub map-parted : {p q : List (Entry S)} {n : ℕ} → Parted p q n → Parted (map (map_entry f) p) (map (map_entry f) q) n
  map-parted z = record {
    common = map (map_entry f) z.common;
    stays = map (map_entry f) z.stays;
    crosses = map (map_entry f) z.crosses;
    first = ap (map (map_entry f)) z.first ∙ map-append (map_entry f) z.common z.stays;
    second = ap (map (map_entry f)) z.second ∙ map-append (map_entry f) z.common z.crosses;
    size = length-map z.common (map_entry f) ∙ z.size;
    stay = stays-map z.stays z.stay;
    cross = crosses-map z.crosses z.cross;
  }

-- FORKS: two paths that share n entries and part; the first right entry of the second one has the level m, and the down
-- entries before it are above m
data Fork : ℕ → List (Entry Tree) → List (Entry Tree) → ℕ → Type 0 where
  descend : {m l n : ℕ} {s : Tree} {p q : List (Entry Tree)} → m < l → Fork m p q n
      → Fork m (down l s ∷ p) (down l s ∷ q) (suc n)
  cross : {m l n : ℕ} {s : Tree} {p q : List (Entry Tree)} → Fork m p q n
      → Fork l (right l s ∷ p) (right l s ∷ q) (suc n)
  step : {m n : ℕ} {c : Item} {p q : List (Entry Tree)} → Fork m p q n → Fork 0 (pass c ∷ p) (pass c ∷ q) (suc n)
  forked : {m : ℕ} {s t : Tree} {p q : List (Entry Tree)} → Fork m (down m s ∷ p) (right m t ∷ q) 0
  stopped : {c : Item} {q : List (Entry Tree)} → Fork 0 [] (pass c ∷ q) 0

fork-parted : {m n : ℕ} {p q : List (Entry Tree)} → Fork m p q n → Parted p q n
fork-parted (descend {l = l} {s = s} k f) = one_more (down l s) (fork-parted f)
fork-parted (cross {l = l} {s = s} f) = one_more (right l s) (fork-parted f)
fork-parted (step {c = c} f) = one_more (pass c) (fork-parted f)
fork-parted forked = at_once tt tt
fork-parted stopped = at_once tt tt

crossed : (c : Item) (h : ℕ) {m n : ℕ} {p q : List (Entry Tree)} → Fork m p q n
    → Fork h (crossing c h ∷ p) (crossing c h ∷ q) (suc n)
crossed c zero f = step f
crossed c (suc h) f = cross f

-- a column in front of both, lower than the first right entry: it comes in front of that entry's lower side
graft_low : (c : Item) (h : ℕ) {m n : ℕ} {p q : List (Entry Tree)} → h < m → Fork m p q n
    → Fork m (graft_entries c h p) (graft_entries c h q) n
graft_low c h k (descend {l = l} i f) = rw (lt-ltb h l (omega arith)) (descend i (graft_low c h k f))
graft_low c h k (cross {l = l} f) = rw (lt-ltb h l k) (cross f)
graft_low c h k (step f) = absurd (omega arith)
graft_low c h k (forked {m = m}) = rw (lt-ltb h m k) forked
graft_low c h k stopped = absurd (omega arith)

-- another one: a right entry is put in above it
graft_high : (c : Item) (h : ℕ) {m n : ℕ} {p q : List (Entry Tree)} → m ≤ h → Fork m p q n
    → Fork h (graft_entries c h p) (graft_entries c h q) (suc n)
graft_high c h {m} k (descend {l = l} {n = n} {s = s} {p = p} {q = q} i f) = go (order h l) (graft_high c h k f)
  where
    go : (h < l) ⊎ (l ≤ h) → Fork h (graft_entries c h p) (graft_entries c h q) (suc n)
        → Fork h (graft_entries c h (down l s ∷ p)) (graft_entries c h (down l s ∷ q)) (suc (suc n))
    go (inl j) ih = rw (lt-ltb h l j) (descend j ih)
    go (inr j) ih = rw (le-ltb h l j) (crossed c h (descend i f))
graft_high c h k (cross {l = l} f) = rw (le-ltb h l k) (crossed c h (cross f))
graft_high c h k (step f) = crossed c h (step f)
graft_high c h k (forked {m = m}) = rw (le-ltb h m k) (crossed c h forked)
graft_high c h k stopped = crossed c h stopped

-- a column of height h between the two: the first path stops or goes down in front of it, the second crosses it
fork_here : (c : Item) (h : ℕ) (t : Tree) (q : List (Entry Tree)) → Fork h (opened trees h t) (crossing c h ∷ q) 0
fork_here c zero t q = stopped
fork_here c (suc h) t q = forked

-- it is the only one
close_alone : (c : Item) (h : ℕ) (t : Tree) (p : List (Entry Tree)) → AllDown p
    → Fork h (closed trees h t p) (graft_entries c h p) (higher h p)
close_alone c h t [] a = fork_here c h t []
close_alone c h t (down l s ∷ p) a = go (order h l) (close_alone c h t p a.1)
  where
    go : (h < l) ⊎ (l ≤ h) → Fork h (closed trees h t p) (graft_entries c h p) (higher h p)
        → Fork h (closed trees h t (down l s ∷ p)) (graft_entries c h (down l s ∷ p)) (higher h (down l s ∷ p))
    go (inl k) ih = rw (lt-ltb h l k) (descend k ih)
    go (inr k) ih = rw (le-ltb h l k) (fork_here c h _ _)
close_alone c h t (right l s ∷ p) a = absurd a
close_alone c h t (pass d ∷ p) a = absurd a

-- it comes in front of a taller one
close_low : (c : Item) (h : ℕ) (t : Tree) {m n : ℕ} {p q : List (Entry Tree)} → h < m → AllDown p → Fork m p q n
    → Fork m (closed trees h t p) (graft_entries c h q) n
close_low c h t k a (descend {l = l} i f) = rw (lt-ltb h l (omega arith)) (descend i (close_low c h t k a.1 f))
close_low c h t k a (cross f) = absurd a
close_low c h t k a (step f) = absurd a
close_low c h t k a (forked {m = m}) = rw (lt-ltb h m k) forked
close_low c h t k a stopped = absurd (omega arith)

-- it comes in front of others, and none is taller
close_high : (c : Item) (h : ℕ) (t : Tree) {m n : ℕ} {p q : List (Entry Tree)} → m ≤ h → AllDown p → Fork m p q n
    → Fork h (closed trees h t p) (graft_entries c h q) (higher h p)
close_high c h t {m} k a (descend {l = l} {s = s} {p = p} {q = q} i f) = go (order h l) (close_high c h t k a.1 f)
  where
    go : (h < l) ⊎ (l ≤ h) → Fork h (closed trees h t p) (graft_entries c h q) (higher h p)
        → Fork h (closed trees h t (down l s ∷ p)) (graft_entries c h (down l s ∷ q)) (higher h (down l s ∷ p))
    go (inl j) ih = rw (lt-ltb h l j) (descend j ih)
    go (inr j) ih = rw (le-ltb h l j) (fork_here c h _ _)
close_high c h t k a (cross f) = absurd a
close_high c h t k a (step f) = absurd a
close_high c h t k a (forked {m = m}) = rw (le-ltb h m k) (fork_here c h _ _)
close_high c h t k a stopped = fork_here c h t _

-- THE PATHS MADE FROM THE ROW
between : (c : Item) (d : Column) (B C : List Column)
    → Fork (tallest (d ∷ B)) (down_entries trees ((d ∷ B) ++ C)) (entries_to c (d ∷ B) C)
    (length (down_columns (tallest (d ∷ B)) C))
between c d [] C =
    rw (le-ltb d.height 0 (omega arith), ← higher-downs trees d.height C)
    (close_alone c d.height _ (down_entries trees C) (entries_down trees C))
between c d (e ∷ B) C = go (order h m) (between d.item e B C)
  where
    h : ℕ
    h = d.height

    m : ℕ
    m = tallest (e ∷ B)

    p : List (Entry Tree)
    p = down_entries trees ((e ∷ B) ++ C)

    q : List (Entry Tree)
    q = entries_to d.item (e ∷ B) C

    t : Tree
    t = leaf d.item (stop_side trees ((e ∷ B) ++ C))

    count : m ≤ h → higher h p ≡ length (down_columns h C)
    count k = higher-downs trees h ((e ∷ B) ++ C)
        ∙ ap length (low_downs h (e ∷ B) C (at_most_up m h (e ∷ B) k (at_most-tallest (e ∷ B))))

    go : (h < m) ⊎ (m ≤ h) → Fork m p q (length (down_columns m C))
        → Fork (cond (ltb h m) m h) (closed trees h t p) (graft_entries c h q)
        (length (down_columns (cond (ltb h m) m h) C))
    go (inl k) f = rw (lt-ltb h m k) (close_low c h t k (entries_down trees ((e ∷ B) ++ C)) f)
    go (inr k) f = rw (le-ltb h m k, ← count k) (close_high c h t k (entries_down trees ((e ∷ B) ++ C)) f)

module _ (B C : List Column)
    (start : (c : Item) → Fork (tallest B) (down_entries trees (B ++ C)) (entries_to c B C)
    (length (down_columns (tallest B) C))) where
  in_front : (c : Item) (A : List Column)
      → Fork (tallest (A ++ B)) (entries_to c A (B ++ C)) (entries_to c (A ++ B) C) (shared_count A B C)
  in_front c [] = subst (Fork (tallest B) (down_entries trees (B ++ C)) (entries_to c B C)) (omega arith) (start c)
  in_front c (d ∷ A) = go (order h m) (in_front d.item A)
    where
      h : ℕ
      h = d.height

      m : ℕ
      m = tallest (A ++ B)

      p : List (Entry Tree)
      p = entries_to d.item A (B ++ C)

      q : List (Entry Tree)
      q = entries_to d.item (A ++ B) C

      go : (h < m) ⊎ (m ≤ h) → Fork m p q (shared_count A B C)
          → Fork (tallest (d ∷ (A ++ B))) (graft_entries c h p) (graft_entries c h q) (shared_count (d ∷ A) B C)
      go (inl k) f = rw (lt-ltb h m k) (graft_low c h k f)
      go (inr k) f = rw (le-ltb h m k)
          (subst (Fork h (graft_entries c h p) (graft_entries c h q)) (omega (arith, more_rights A B)) (graft_high c h k f))

pub parted : (c : Item) (A : List Column) (d : Column) (B C : List Column)
    → Parted (entries_to c A ((d ∷ B) ++ C)) (entries_to c (A ++ (d ∷ B)) C) (shared_count A (d ∷ B) C)
parted c A d B C = fork-parted (in_front (d ∷ B) C (λ i. between i d B C) c A)

-- the number of entries with no bound on heights; no more are shared than either path has
pub path_count : (c : Item) (A B : List Column) → length (entries_to c A B) ≡ entry_count A B
path_count c A B =
    let low = at_most-tallest (A ++ B) in
    path_length (tallest (A ++ B)) c A B (at_most_left (tallest (A ++ B)) A B low)
    (at_most-right (tallest (A ++ B)) A B low)

pub shared_small : (A B C : List Column)
    → (shared_count A B C ≤ entry_count A (B ++ C)) × (shared_count A B C ≤ entry_count (A ++ B) C)
shared_small A [] C = rw (append-nil A) (omega arith, omega arith)
shared_small A (d ∷ B) C =
    let few = parted_few (parted head A d B C) in
    (omega (arith, few.0, path_count head A ((d ∷ B) ++ C)), omega (arith, few.1, path_count head (A ++ (d ∷ B)) C))

-- THE WAYS TO TWO POSITIONS of a row of blocks. Own alone decides the way, so heights and tags may be any.
abbrev Owns : Bool → Item → Type 0
Owns true c = c.own ≡ 0
Owns false c = c.own ≡ 1

owns-row : (bs : List Block) → AllFit Owns (row bs)
owns-row [] = tt
owns-row (b ∷ bs) = (refl, owns-row bs)

pub way_placed : (p : ℕ) (bs : List Block) → p ≤ length bs → way_to p bs ≡ place_at p bs
way_placed p bs k =
    find_is_walk Owns (λ c o. o) (λ c o. o) p head (row bs) refl (owns-row bs)
    ∙ ap (λ R. walk p (tree head R)) (sym (row_cut p bs))
    ∙ walk-row Owns (λ c o. omega (arith, o)) p head (row (take p bs)) (row (drop p bs)) refl
    (rw (row_cut p bs) (owns-row bs)) (proves-holds trees p (place_at p bs) (place-proves p bs k))

pub way_split : (xs ys : List Block) → way_to (length xs) (xs ++ ys) ≡ place head (row xs) (row ys)
way_split xs ys =
    way_placed (length xs) (xs ++ ys) (omega (arith, length-append xs ys))
    ∙ rw (take_at xs ys (length xs) refl, drop_at xs ys (length xs) refl)

pub ways_parted : (xs ys zs : List Block) → 1 ≤ length ys
    → Parted (way_to (length xs) (xs ++ (ys ++ zs))).entries (way_to (length (xs ++ ys)) (xs ++ (ys ++ zs))).entries
    (shared_count (row xs) (row ys) (row zs))
ways_parted xs [] zs k = absurd (omega arith)
ways_parted xs (y ∷ ys) zs k =
    rw (
      way_split xs ((y ∷ ys) ++ zs),
      ← append_assoc xs (y ∷ ys) zs,
      way_split (xs ++ (y ∷ ys)) zs,
      ← row-append xs (y ∷ ys),
      ← row-append (y ∷ ys) zs,
    )
    (parted head (row xs) (column y) (row ys) (row zs))

-- the same where the row is cut into three runs, and where it is cut at p and q
pub ways_parted_cut : (p q : ℕ) (bs xs ys zs : List Block) → p ≡ length xs → q ≡ length (xs ++ ys)
    → bs ≡ xs ++ (ys ++ zs) → 1 ≤ length ys
    → Parted (way_to p bs).entries (way_to q bs).entries (shared_count (row xs) (row ys) (row zs))
ways_parted_cut p q bs xs ys zs i j e k = rw (i, j, e) (ways_parted xs ys zs k)

pub ways_parted_at : (p q : ℕ) (bs : List Block) → p < q → q ≤ length bs
    → Parted (way_to p bs).entries (way_to q bs).entries
    (shared_count (row (take p bs)) (row (take (q - p) (drop p bs))) (row (drop q bs)))
ways_parted_at p q bs k l =
    ways_parted_cut p q bs xs ys (drop q bs) (sym first) (omega (arith, first, second, length-append xs ys))
    (sym (ap (λ r. xs ++ r) rest ∙ take-append-drop p bs)) (omega (arith, second))
  where
    xs : List Block
    xs = take p bs

    ys : List Block
    ys = take (q - p) (drop p bs)

    first : length xs ≡ p
    first = length-take-le p bs (omega arith)

    second : length ys ≡ q - p
    second = length-take-le (q - p) (drop p bs) (omega (arith, length-drop p bs))

    rest : ys ++ drop q bs ≡ drop p bs
    rest =
        let e : p + (q - p) ≡ q = omega arith in
        rw (← ap (λ n. drop n bs) e, ← drop-drop (q - p) p bs) (take-append-drop (q - p) (drop p bs))
