-- One pass from the right with a slot for each level: the open slots are the down entries in front of the columns
-- passed, slot 0 is the stop's right side, and sealing them all over a column's leaf gives what stands for the tree.
-- Over any kind of sides with a test that tells the empty side from leaves and nodes.
use Prim.Native.Nat.{ℕ, zero, suc, ◌≤◌, ◌<◌}
use native.Mathlib.Omega.{arith}
use native.Mathlib.Decide.{ℕ_discrete}
use mathlib.Core.Path.{◌≡◌, refl, ap, ap₂, sym, ◌∙◌, subst}
use mathlib.Core.Logic.{◌⊎◌, inl, inr, ◌≢◌}
use mathlib.Core.Bool.{Bool, true, false, cond}
use mathlib.Core.List.{List, [], ◌∷◌}
use lib.ListN.{length, set, length-set, replicate, length-replicate, get_or-replicate}
use lib.Seq.{get_or-set_same, get_or-set_other}
use borrow.Author.Tests.{lt-ltb}
use Rattle.skiplist.specs.Row.{Item, Column, AtMost}
use Rattle.skiplist.specs.Tree.{tree}
use Rattle.skiplist.specs.Sides.{Sides, side_of}
use Rattle.skiplist.specs.Entry.{Entry, down, right, pass}
use Rattle.skiplist.specs.Recompute.{plug}
use Rattle.skiplist.specs.Path.{closed, beside, stop_side, down_entries}
use Rattle.skiplist.specs.Slots.{slot, no_slots, sealed, shut, with_column, slots, open_slots}
use Rattle.skiplist.proofs.Cases.{order}
use Rattle.skiplist.proofs.MergeLaws.{Top, top_up, closed_low}
use Rattle.skiplist.proofs.SideLaws.{downs-root}

-- `vacant` tells the empty side from the others
pub record Tells {S : Type 0} (𝓢 : Sides S) (vacant : S → Bool) : Type 0 where
  pub of_none : vacant 𝓢.none ≡ true
  pub of_leaf : (c : Item) (r : S) → vacant (𝓢.leaf c r) ≡ false
  pub of_node : (l : ℕ) (a b : S) → vacant (𝓢.node l a b) ≡ false

le-ne : (i h : ℕ) → i ≤ suc h → i ≢ suc h → i ≤ h
le-ne i h a e = pick (order h i)
  where
    pick : (h < i) ⊎ (i ≤ h) → i ≤ h
    pick (inl k) = absurd (e (omega arith))
    pick (inr k) = k

module _ {S : Type 0} (𝓢 : Sides S) (vacant : S → Bool) (tells : Tells 𝓢 vacant) where
  -- a slot; the open ones up to h; the slots with a column in front; the column's leaf
  abbrev at : List S → ℕ → S
  at s l = slot 𝓢 vacant s l

  abbrev opens : List S → ℕ → List (Entry S)
  opens s h = open_slots 𝓢 vacant s h

  abbrev with : List S → ℕ → Item → List S
  with s h c = with_column 𝓢 vacant s h c

  abbrev leaf_of : List S → Item → S
  leaf_of s c = 𝓢.leaf c (at s 0)

  -- the side below the open slots is what their entries make of it
  sealed-plug : (s : List S) (h : ℕ) (t : S) → sealed 𝓢 vacant s h t ≡ plug 𝓢 (opens s h) t
  unfolding sealed open_slots
  sealed-plug s zero t = refl
  sealed-plug s (suc l) t = rw (sealed-plug s l t) (go (vacant (at s (suc l))))
    where
      go : (b : Bool) → cond b (plug 𝓢 (opens s l) t) (𝓢.node (suc l) (plug 𝓢 (opens s l) t) (at s (suc l)))
          ≡ plug 𝓢 (cond b (opens s l) (down (suc l) (at s (suc l)) ∷ opens s l)) t
      go true = refl
      go false = refl

  -- SHUT SLOTS
  length-shut : (s : List S) (h : ℕ) → length (shut 𝓢 vacant s h) ≡ length s
  unfolding shut
  length-shut s zero = length-set s 0 𝓢.none
  length-shut s (suc h) = length-set (shut 𝓢 vacant s h) (suc h) 𝓢.none ∙ length-shut s h

  shut_low : (s : List S) (h i : ℕ) → i ≤ h → h < length s → at (shut 𝓢 vacant s h) i ≡ 𝓢.none
  unfolding shut
  shut_low s zero i a b = let e : i ≡ 0 = omega arith in rw e (get_or-set_same s 0 𝓢.none 𝓢.none b)
  shut_low s (suc h) i a b = go (ℕ_discrete i (suc h)) (λ k. shut_low s h i k (omega arith))
    where
      go : Dec (i ≡ suc h) → (i ≤ h → at (shut 𝓢 vacant s h) i ≡ 𝓢.none)
          → at (set (shut 𝓢 vacant s h) (suc h) 𝓢.none) i ≡ 𝓢.none
      go (yes e) ih = rw e (get_or-set_same (shut 𝓢 vacant s h) (suc h) 𝓢.none 𝓢.none (rw (length-shut s h) b))
      go (no e) ih = get_or-set_other (shut 𝓢 vacant s h) (suc h) i 𝓢.none 𝓢.none e ∙ ih (le-ne i h a e)

  shut_high : (s : List S) (h i : ℕ) → h < i → at (shut 𝓢 vacant s h) i ≡ at s i
  unfolding shut
  shut_high s zero i a = get_or-set_other s 0 i 𝓢.none 𝓢.none (λ e. omega arith)
  shut_high s (suc h) i a =
      get_or-set_other (shut 𝓢 vacant s h) (suc h) i 𝓢.none 𝓢.none (λ e. omega arith) ∙ shut_high s h i (omega arith)

  -- A COLUMN IN FRONT
  length-with : (s : List S) (h : ℕ) (c : Item) → length (with s h c) ≡ length s
  unfolding with_column
  length-with s h c = length-set (shut 𝓢 vacant s h) h _ ∙ length-shut s h

  at_height : (s : List S) (h : ℕ) (c : Item) → h < length s → at (with s h c) h ≡ sealed 𝓢 vacant s h (leaf_of s c)
  unfolding with_column
  at_height s h c room = get_or-set_same (shut 𝓢 vacant s h) h _ 𝓢.none (rw (length-shut s h) room)

  at_low : (s : List S) (h : ℕ) (c : Item) → h < length s → (i : ℕ) → i < h → at (with s h c) i ≡ 𝓢.none
  unfolding with_column
  at_low s h c room i k = get_or-set_other (shut 𝓢 vacant s h) h i _ 𝓢.none (λ e. omega arith)
      ∙ shut_low s h i (omega arith) room

  at_high : (s : List S) (h : ℕ) (c : Item) (i : ℕ) → h < i → at (with s h c) i ≡ at s i
  unfolding with_column
  at_high s h c i k = get_or-set_other (shut 𝓢 vacant s h) h i _ 𝓢.none (λ e. omega arith) ∙ shut_high s h i k

  -- THE OPEN SLOTS
  open-top : (s : List S) (h : ℕ) → Top h (opens s h)
  unfolding open_slots
  open-top s zero = tt
  open-top s (suc l) = go (vacant (at s (suc l))) (open-top s l)
    where
      go : (b : Bool) → Top l (opens s l) → Top (suc l) (cond b (opens s l) (down (suc l) (at s (suc l)) ∷ opens s l))
      go true ih = top_up l (suc l) (opens s l) (omega arith) ih
      go false ih = omega arith

  open_none : (s : List S) (h : ℕ) → ((i : ℕ) → i ≤ h → at s i ≡ 𝓢.none) → opens s h ≡ []
  unfolding open_slots
  open_none s zero z = refl
  open_none s (suc l) z = rw (z (suc l) (omega arith), tells.of_none) (open_none s l (λ i k. z i (omega arith)))

  plug_full : (p : List (Entry S)) (c : Item) (r : S) → vacant (plug 𝓢 p (𝓢.leaf c r)) ≡ false
  plug_full [] c r = tells.of_leaf c r
  plug_full (down l s ∷ p) c r = tells.of_node l _ s
  plug_full (right l s ∷ p) c r = tells.of_node l s _
  plug_full (pass d ∷ p) c r = tells.of_leaf d _

  -- a column in front closes the open slots up to its height: at that height, and from there on
  open_own : (s : List S) (h : ℕ) (c : Item) → h < length s → opens (with s h c) h ≡ closed 𝓢 h (leaf_of s c) (opens s h)
  unfolding open_slots
  open_own s zero c room = refl
  open_own s (suc g) c room =
      let here = at_height s (suc g) c room ∙ sealed-plug s (suc g) (leaf_of s c) in
      rw (
        here,
        plug_full (opens s (suc g)) c (at s 0),
        open_none (with s (suc g) c) g (λ i j. at_low s (suc g) c room i (omega arith)),
      ) (sym (closed_low 𝓢 (suc g) (leaf_of s c) (opens s (suc g)) (open-top s (suc g))))

  open_with : (s : List S) (h : ℕ) (c : Item) → h < length s → (m : ℕ) → h ≤ m
      → opens (with s h c) m ≡ closed 𝓢 h (leaf_of s c) (opens s m)
  unfolding open_slots
  open_with s h c room zero k =
      let e : h ≡ 0 = omega arith in subst (λ m. opens (with s h c) m ≡ closed 𝓢 h (leaf_of s c) (opens s m)) e
      (open_own s h c room)
  open_with s h c room (suc m) k = go (order h (suc m)) (λ j. open_with s h c room m j)
    where
      step : (b : Bool) (x : S) → h ≤ m → opens (with s h c) m ≡ closed 𝓢 h (leaf_of s c) (opens s m)
          → cond b (opens (with s h c) m) (down (suc m) x ∷ opens (with s h c) m)
          ≡ closed 𝓢 h (leaf_of s c) (cond b (opens s m) (down (suc m) x ∷ opens s m))
      step true x j ih = ih
      step false x j ih = rw (lt-ltb h (suc m) (omega arith), ih)

      go : (h < suc m) ⊎ (suc m ≤ h) → (h ≤ m → opens (with s h c) m ≡ closed 𝓢 h (leaf_of s c) (opens s m))
          → opens (with s h c) (suc m) ≡ closed 𝓢 h (leaf_of s c) (opens s (suc m))
      go (inl j) ih = rw (at_high s h c (suc m) j)
          (step (vacant (at s (suc m))) (at s (suc m)) (omega arith) (ih (omega arith)))
      go (inr j) ih =
          let e : h ≡ suc m = omega arith in
          subst (λ n. opens (with s h c) n ≡ closed 𝓢 h (leaf_of s c) (opens s n)) e (open_own s h c room)

  -- THE SLOTS IN FRONT OF A RUN whose heights are at most h
  pub slots-length : (h : ℕ) (B : List Column) → length (slots 𝓢 vacant h B) ≡ suc h
  unfolding slots no_slots
  slots-length h [] = length-replicate (suc h) 𝓢.none
  slots-length h (d ∷ B) = length-with (slots 𝓢 vacant h B) d.height d.item ∙ slots-length h B

  pub slots-stop : (h : ℕ) (B : List Column) → AtMost h B → slot 𝓢 vacant (slots 𝓢 vacant h B) 0 ≡ stop_side 𝓢 B
  unfolding slots no_slots sealed
  slots-stop h [] a = refl
  slots-stop h (d ∷ B) a = go d.height (omega (arith, a.0, slots-length h B)) (slots-stop h B a.1)
    where
      go : (g : ℕ) → g < length (slots 𝓢 vacant h B) → at (slots 𝓢 vacant h B) 0 ≡ stop_side 𝓢 B
          → at (with (slots 𝓢 vacant h B) g d.item) 0 ≡ beside 𝓢 g (𝓢.leaf d.item (stop_side 𝓢 B))
      go zero k ih = at_height (slots 𝓢 vacant h B) 0 d.item k ∙ ap (𝓢.leaf d.item) ih
      go (suc g) k ih = at_low (slots 𝓢 vacant h B) (suc g) d.item k 0 (omega arith)

  pub slots-open : (h : ℕ) (B : List Column) → AtMost h B → open_slots 𝓢 vacant (slots 𝓢 vacant h B) h ≡ down_entries 𝓢 B
  unfolding slots no_slots
  slots-open h [] a =
      open_none (replicate (suc h) 𝓢.none) h (λ i k. get_or-replicate (suc h) i 𝓢.none 𝓢.none (omega arith))
  slots-open h (d ∷ B) a =
      open_with (slots 𝓢 vacant h B) d.height d.item (omega (arith, a.0, slots-length h B)) h a.0
      ∙ ap₂ (λ r p. closed 𝓢 d.height (𝓢.leaf d.item r) p) (slots-stop h B a.1) (slots-open h B a.1)

  pub slots-root : (h : ℕ) (c : Item) (B : List Column) → AtMost h B
      → sealed 𝓢 vacant (slots 𝓢 vacant h B) h (𝓢.leaf c (slot 𝓢 vacant (slots 𝓢 vacant h B) 0)) ≡ side_of 𝓢 (tree c B)
  slots-root h c B a =
      sealed-plug (slots 𝓢 vacant h B) h (leaf_of (slots 𝓢 vacant h B) c)
      ∙ ap₂ (λ r p. plug 𝓢 p (𝓢.leaf c r)) (slots-stop h B a) (slots-open h B a) ∙ downs-root 𝓢 c B
