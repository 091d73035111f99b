-- Entries and a stop that recompute to a tree's label, with a rank that fits its four bytes, are a path of that tree,
-- or there is a clash. From the root down, each label that is recomputed is opened together with the tree's own.
use Prim.Native.Nat.{ℕ, pred, ◌<◌}
use native.Mathlib.Omega.{arith}
use mathlib.Core.Path.{◌≡◌, refl, ap, ap₂, sym, ◌∙◌}
use mathlib.Core.Logic.{◌⊎◌, inr}
use mathlib.Core.Bool.{Bool, false}
use mathlib.Core.List.{List, [], ◌∷◌, map}
use lib.ListN.{length}
use Rattle.skiplist.specs.Row.{Item}
use Rattle.skiplist.specs.Tree.{Tree, empty, leaf, node}
use Rattle.skiplist.specs.Sides.{trees, side_of}
use Rattle.skiplist.specs.Entry.{Entry, down, right, pass, Falls}
use Rattle.skiplist.specs.Recompute.{push, plug}
use Rattle.skiplist.specs.Label.{Side, leaf_side, sides, nothing, rank_bound}
use Rattle.skiplist.specs.Messages.{tree_messages, path_messages}
use Rattle.skiplist.specs.Clash.{Clash}
use Rattle.skiplist.specs.Limits.{digest_bytes}
use Rattle.skiplist.specs.Leaves.{Fits}
use Rattle.skiplist.proofs.ClashLaws.{◌>>=◌, Within, within_left, within-right, peel}
use Rattle.skiplist.proofs.GoodTree.{Good}
use Rattle.skiplist.proofs.SideLaws.{entry_of}

side-eq : {a b : Side} → a.rank ≡ b.rank → a.label ≡ b.label → a ≡ b
side-eq p q = λ i. record { rank = p i; label = q i }

-- the entries p and the stop c, s are a path of the tree T, and recompute its rank
pub record Genuine (H : List ℕ → List ℕ) (T : Tree) (p : List (Entry Side)) (c : Item) (s : Side) : Type 0 where
  pub path : List (Entry Tree)
  pub below : Tree
  pub makes : plug trees path (leaf c below) ≡ T
  pub entries : map (entry_of (sides H)) path ≡ p
  pub stop : side_of (sides H) below ≡ s
  pub ranks : (plug (sides H) p (leaf_side H c s)).rank ≡ (side_of (sides H) T).rank

-- settles: what a proof may say of a leaf, and what an archive keeps there, are equal where their thirds are
module _ (H : List ℕ → List ℕ) (H32 : (m : List ℕ) → length (H m) ≡ digest_bytes) (Sent Kept : Bool → Item → Type 0)
    (settles : (f : Bool) (c d : Item) → Sent f c → Kept f d → c.third ≡ d.third → c ≡ d) (M N : List (List ℕ))
    (c : Item) (s : Side) where
  -- what p recomputes
  abbrev root : List (Entry Side) → Side
  root p = plug (sides H) p (leaf_side H c s)

  no_empty : {A : Type 0} (m : List ℕ) → H m ≡ nothing → A
  no_empty m e = absurd (omega (arith, H32 m, ap length e))

  -- one entry more above a path
  above : (e : Entry Tree) (f : Entry Side) {T U : Tree} {p : List (Entry Side)} → entry_of (sides H) e ≡ f
      → push trees e T ≡ U
      → (root (f ∷ p)).rank ≡ (side_of (sides H) U).rank → Genuine H T p c s → Genuine H U (f ∷ p) c s
  above e f i j r h = record {
    path = e ∷ h.path;
    below = h.below;
    makes = ap (push trees e) h.makes ∙ j;
    entries = ap₂ ◌∷◌ i h.entries;
    stop = h.stop;
    ranks = r;
  }

  pub genuine : (f : Bool) (b : ℕ) (p : List (Entry Side)) (T : Tree) → Fits Sent f p c → Falls b p → Good Kept f T
      → (root p).rank < rank_bound → (side_of (sides H) T).rank < rank_bound
      → Within (path_messages H p c s) M → Within (tree_messages H T) N → (root p).label ≡ (side_of (sides H) T).label
      → Clash H M N ⊎ Genuine H T p c s
  genuine f b [] empty k l g u v w x e = no_empty _ e
  genuine f b [] (leaf d r) k l g u v w x e = do
    q ← peel H H32 M N _ _ _ _ _ _ _ _ w (within-right (tree_messages H r) _ N x) u v e
    let same = settles f c d k g.0 q.2
    inr (record {
      path = [];
      below = r;
      makes = ap (λ i. leaf i r) same;
      entries = refl;
      stop = side-eq (omega (arith, q.1, ap (λ (i : Item). i.own) same)) (sym q.3);
      ranks = q.1;
    })
  genuine f b [] (node k' lo hi) k l g u v w x e = do
    q ← peel H H32 M N _ _ _ _ _ _ _ _ w
        (within-right (tree_messages H lo) _ N (within-right (tree_messages H hi) _ N x)) u v e
    absurd (omega (arith, q.0, g.0))
  genuine f b (down j t ∷ p) empty k l g u v w x e = no_empty _ e
  genuine f b (down j t ∷ p) (leaf d r) k l g u v w x e = do
    q ← peel H H32 M N _ _ _ _ _ _ _ _ (within-right (path_messages H p c s) _ M w)
        (within-right (tree_messages H r) _ N x) u v e
    absurd (omega (arith, q.0, l.0))
  genuine f b (down j t ∷ p) (node k' lo hi) k l g u v w x e = do
    let rest = within-right (tree_messages H hi) _ N x
    q ← peel H H32 M N _ _ _ _ _ _ _ _ (within-right (path_messages H p c s) _ M w)
        (within-right (tree_messages H lo) _ N rest) u v e
    h ← genuine f (pred j) p lo k l.2 g.3 (omega arith) (omega arith)
        (within_left (path_messages H p c s) _ M w) (within_left (tree_messages H lo) _ N rest) q.2
    let side : side_of (sides H) hi ≡ t = side-eq (omega (arith, q.1, h.ranks)) (sym q.3)
    inr (above (down j hi) (down j t) (ap (down j) side) (ap (λ n. node n lo hi) q.0) q.1 h)
  genuine f b (right j t ∷ p) empty k l g u v w x e = no_empty _ e
  genuine f b (right j t ∷ p) (leaf d r) k l g u v w x e = do
    q ← peel H H32 M N _ _ _ _ _ _ _ _ (within-right (path_messages H p c s) _ M w)
        (within-right (tree_messages H r) _ N x) u v e
    absurd (omega (arith, q.0, l.0))
  genuine f b (right j t ∷ p) (node k' lo hi) k l g u v w x e = do
    let rest = within-right (tree_messages H hi) _ N x
    q ← peel H H32 M N _ _ _ _ _ _ _ _ (within-right (path_messages H p c s) _ M w)
        (within-right (tree_messages H lo) _ N rest) u v e
    h ← genuine false j p hi k l.2 g.4 (omega arith) (omega arith) (within_left (path_messages H p c s) _ M w)
        (within_left (tree_messages H hi) _ N x) q.3
    let side : side_of (sides H) lo ≡ t = side-eq (omega (arith, q.1, h.ranks)) (sym q.2)
    inr (above (right j lo) (right j t) (ap (right j) side) (ap (λ n. node n lo hi) q.0) q.1 h)
  genuine f b (pass d' ∷ p) empty k l g u v w x e = no_empty _ e
  genuine f b (pass d' ∷ p) (leaf d r) k l g u v w x e = do
    q ← peel H H32 M N _ _ _ _ _ _ _ _ (within-right (path_messages H p c s) _ M w)
        (within-right (tree_messages H r) _ N x) u v e
    let same = settles f d' d k.0 g.0 q.2
    h ← genuine false 0 p r k.1 l g.1 (omega arith) (omega arith) (within_left (path_messages H p c s) _ M w)
        (within_left (tree_messages H r) _ N x) q.3
    inr (above (pass d') (pass d') refl (ap (λ i. leaf i r) same) q.1 h)
  genuine f b (pass d' ∷ p) (node k' lo hi) k l g u v w x e = do
    let rest = within-right (tree_messages H hi) _ N x
    q ← peel H H32 M N _ _ _ _ _ _ _ _ (within-right (path_messages H p c s) _ M w)
        (within-right (tree_messages H lo) _ N rest) u v e
    absurd (omega (arith, q.0, g.0))
