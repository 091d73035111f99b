-- One turn of the loops over slots, and the length of every label that slots hold.
-- Assumes nothing.
use Prim.Native.Nat.{ℕ, zero, suc, ◌+◌, ◌-◌, ◌<◌}
use native.Mathlib.Omega.{arith}
use native.Mathlib.Numerals.{add-one}
use mathlib.Core.Path.{◌≡◌, refl, ap, sym, ◌∙◌}
use mathlib.Core.Bool.{Bool, true, false, cond}
use mathlib.Core.List.{List, [], ◌∷◌, ◌++◌}
use lib.ListN.{length, get_or, set, drop, replicate}
use lib.Seq.{length-take-le}
use Rattle.std.proofs.lemmas.List.{get_or_default}
use Rattle.sha256.proofs.Hashes.{sha256-length}
use Rattle.skiplist.specs.Limits.{most_height, digest_bytes}
use Rattle.skiplist.specs.Row.{Item, Column}
use Rattle.skiplist.specs.Tree.{Tree, empty, leaf, node}
use Rattle.skiplist.specs.Sides.{side_of}
use Rattle.skiplist.specs.Slots.{no_slots, sealed, shut, with_column, slots}
use Rattle.skiplist.proofs.SlotLaws.{Tells}
use Rattle.labels.specs.declared.Side.{Side}
use Rattle.labels.specs.CodeSides.{no_side, leaf_of, node_of, coded, vacant}
use Rattle.store.specs.Passes.{slot_of, over_of, sealed_of, shut_of, with_column_of, slots_of, Sized}

pub sealed_next : (s : List Side) (l : ℕ) (t x r d : Side) → 0 < l → l < length s → x ≡ sealed_of s (l - 1) t
    → r ≡ over_of l x (get_or s l d) → r ≡ sealed_of s l t
unfolding sealed
sealed_next s zero t x r d o h ex er = absurd (omega arith)
sealed_next s (suc l) t x r d o h ex er =
    let q : suc l - 1 ≡ l = omega arith in er ∙ rw (get_or_default s (suc l) d no_side h, ex, q)

set_fill : {A : Type 0} (s : List A) (n : ℕ) (e : A) → n < length s
    → set (replicate n e ++ drop n s) n e ≡ replicate (suc n) e ++ drop (suc n) s
set_fill [] n e h = absurd (omega arith)
set_fill (x ∷ s) zero e h = refl
set_fill (x ∷ s) (suc n) e h = ap (λ t. e ∷ t) (set_fill s n e (omega arith))

shut_all : (s : List Side) (h : ℕ) → h < length s → shut_of s h ≡ replicate (suc h) no_side ++ drop (suc h) s
unfolding shut
shut_all s zero k = set_fill s zero no_side k
shut_all s (suc h) k = rw (shut_all s h (omega arith)) (set_fill s (suc h) no_side k)

-- the first slots filled with the empty side
pub shut_is : (s : List Side) (h : ℕ) (e : Side) (x : List Side) → h < length s → e ≡ no_side
    → x ≡ replicate (h + 1) e → x ++ drop (h + 1) s ≡ shut_of s h
shut_is s h e x k ee ex = rw (ex, ee, add-one) (sym (shut_all s h k))

pub ruleset filled = (shut_is, length-take-le)

pub with_column_is : (s x : List Side) (h : ℕ) (c : Item) (t b d : Side) → 0 < length s → x ≡ shut_of s h
    → b ≡ leaf_of c (get_or s 0 d) → t ≡ sealed_of s h b → set x h t ≡ with_column_of s h c
unfolding with_column
with_column_is s x h c t b d k ex eb et = rw (ex, et, eb, get_or_default s 0 d no_side k)

-- the test tells the empty side
pub tells : Tells coded vacant
unfolding no_side leaf_of node_of
tells = record { of_none = refl; of_leaf = λ c r. refl; of_node = λ l a b. refl }

-- ---- every label has 32 bytes
none_sized : length no_side.label ≡ digest_bytes
unfolding no_side
none_sized = refl

leaf_sized : (c : Item) (r : Side) → length (leaf_of c r).label ≡ digest_bytes
unfolding leaf_of
leaf_sized c r = sha256-length _

node_sized : (l : ℕ) (a b : Side) → length (node_of l a b).label ≡ digest_bytes
unfolding node_of
node_sized l a b = sha256-length _

pub side_sized : (t : Tree) → length (side_of coded t).label ≡ digest_bytes
side_sized empty = none_sized
side_sized (leaf c r) = leaf_sized c (side_of coded r)
side_sized (node l a b) = node_sized l (side_of coded a) (side_of coded b)

sealed_sized : (s : List Side) (h : ℕ) (t : Side) → length t.label ≡ digest_bytes → length (sealed_of s h t).label
    ≡ digest_bytes
unfolding sealed
sealed_sized s zero t k = k
sealed_sized s (suc h) t k = go (vacant (slot_of s (suc h))) (sealed_sized s h t k)
  where
    go : (b : Bool) → length (sealed_of s h t).label ≡ digest_bytes
        → length (cond b (sealed_of s h t) (node_of (suc h) (sealed_of s h t) (slot_of s (suc h)))).label ≡ digest_bytes
    go true ih = ih
    go false ih = node_sized (suc h) (sealed_of s h t) (slot_of s (suc h))

set-sized : (s : List Side) (i : ℕ) (v : Side) → Sized s → length v.label ≡ digest_bytes → Sized (set s i v)
set-sized [] i v z k j = z j
set-sized (x ∷ s) zero v z k zero = k
set-sized (x ∷ s) zero v z k (suc j) = z (suc j)
set-sized (x ∷ s) (suc i) v z k zero = z zero
set-sized (x ∷ s) (suc i) v z k (suc j) = set-sized s i v (λ q. z (suc q)) k j

shut-sized : (s : List Side) (h : ℕ) → Sized s → Sized (shut_of s h)
unfolding shut
shut-sized s zero z = set-sized s 0 no_side z none_sized
shut-sized s (suc h) z = set-sized (shut_of s h) (suc h) no_side (shut-sized s h z) none_sized

none_all : (n j : ℕ) → length (slot_of (replicate n no_side) j).label ≡ digest_bytes
none_all zero j = none_sized
none_all (suc n) zero = none_sized
none_all (suc n) (suc j) = none_all n j

pub slots-sized : (B : List Column) → Sized (slots_of B)
unfolding slots no_slots with_column
slots-sized [] = none_all (suc most_height)
slots-sized (d ∷ B) =
    let s = slots_of B in
    set-sized (shut_of s d.height) d.height (sealed_of s d.height (leaf_of d.item (slot_of s 0)))
    (shut-sized s d.height (slots-sized B))
    (sealed_sized s d.height (leaf_of d.item (slot_of s 0)) (leaf_sized d.item (slot_of s 0)))
