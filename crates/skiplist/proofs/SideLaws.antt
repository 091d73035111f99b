-- What the rules do to whole trees they do to whatever stands for them: `side_of` is a homomorphism from trees to any
-- kind of sides, so recomputing, Replace, Insert, the parting of paths, and the down entries of a run carry over.
use Prim.Native.Nat.{ℕ, zero, suc}
use native.Mathlib.Omega.{arith}
use mathlib.Core.Path.{◌≡◌, refl, ap, ap₂, sym, ◌∙◌}
use mathlib.Core.Bool.{Bool, true, false, cond}
use mathlib.Core.List.{List, [], ◌∷◌, map}
use lib.Dec.{ltb}
use Rattle.skiplist.specs.Row.{Item, Column}
use Rattle.skiplist.specs.Tree.{Tree, empty, leaf, tree}
use Rattle.skiplist.specs.Sides.{Sides, trees, side_of}
use Rattle.skiplist.specs.Entry.{Entry, down, right, pass, Place, map_entry, map_place, level}
use Rattle.skiplist.specs.Recompute.{push, plug, whole, passed}
use Rattle.skiplist.specs.Merge.{rights, downs}
use Rattle.skiplist.specs.Find.{Holds}
use Rattle.skiplist.specs.Edits.{kept, remaining, replaced, seated, inserted}
use Rattle.skiplist.specs.Path.{opened, closed, beside, stop_side, down_entries}
use Rattle.skiplist.proofs.MapLaws.{level-map, rights-map, downs-map, only_rights-map, only_downs-map}
use Rattle.skiplist.proofs.MapLaws.{kept-map, remaining-map}
use Rattle.skiplist.proofs.DownLaws.{downs-whole}
use Rattle.skiplist.proofs.RankLaws.{Weighs, side-weight}
use Rattle.skiplist.proofs.MeetingLaws.{Part, shared, forked, stopped, Only}

module _ {S : Type 0} (𝓢 : Sides S) where
  abbrev pub entry_of : Entry Tree → Entry S
  entry_of e = map_entry (side_of 𝓢) e

  -- RECOMPUTING
  push-side : (e : Entry Tree) (t : Tree) → push 𝓢 (entry_of e) (side_of 𝓢 t) ≡ side_of 𝓢 (push trees e t)
  push-side (down l s) t = refl
  push-side (right l s) t = refl
  push-side (pass c) t = refl

  pub plug-side : (p : List (Entry Tree)) (t : Tree) → plug 𝓢 (map entry_of p) (side_of 𝓢 t) ≡ side_of 𝓢 (plug trees p t)
  plug-side [] t = refl
  plug-side (e ∷ p) t = rw (plug-side p t) (push-side e (plug trees p t))

  pub whole-side : (z : Place Tree) → whole 𝓢 (map_place (side_of 𝓢) z) ≡ side_of 𝓢 (whole trees z)
  whole-side z = plug-side z.entries (leaf z.item z.side)

  pub passed_side : Weighs 𝓢 → (p : List (Entry Tree)) → passed 𝓢 (map entry_of p) ≡ passed trees p
  passed_side w [] = refl
  passed_side w (down l s ∷ p) = passed_side w p
  passed_side w (right l s ∷ p) = omega (arith, passed_side w p, side-weight 𝓢 w s)
  passed_side w (pass c ∷ p) = rw (passed_side w p)

  pub holds-side : Weighs 𝓢 → (n : ℕ) (z : Place Tree) → Holds trees n z → Holds 𝓢 n (map_place (side_of 𝓢) z)
  holds-side w n z h = rw (passed_side w z.entries) h

  pub side-holds : Weighs 𝓢 → (n : ℕ) (z : Place Tree) → Holds 𝓢 n (map_place (side_of 𝓢) z) → Holds trees n z
  side-holds w n z h = rw (passed_side w z.entries) at h

  -- REPLACE AND INSERT
  pub replaced-side : (x : Item) (z : Place Tree) → replaced 𝓢 x (map_place (side_of 𝓢) z) ≡ side_of 𝓢 (replaced trees x z)
  replaced-side x z = plug-side z.entries (leaf x z.side)

  lower_side : (p : List (Entry Tree)) (c : Item)
      → plug 𝓢 (rights (map entry_of p)) (𝓢.leaf c 𝓢.none) ≡ side_of 𝓢 (plug trees (rights p) (leaf c empty))
  lower_side p c = rw (rights-map (side_of 𝓢) p) (plug-side (rights p) (leaf c empty))

  right_side : (p : List (Entry Tree)) (x : Item) (r : Tree)
      → plug 𝓢 (downs (map entry_of p)) (𝓢.leaf x (side_of 𝓢 r)) ≡ side_of 𝓢 (plug trees (downs p) (leaf x r))
  right_side p x r = rw (downs-map (side_of 𝓢) p) (plug-side (downs p) (leaf x r))

  seated-side : (h : ℕ) (x : Item) (p : List (Entry Tree)) (c : Item) (r : Tree)
      → seated 𝓢 h x (map entry_of p) c (side_of 𝓢 r) ≡ side_of 𝓢 (seated trees h x p c r)
  seated-side zero x p c r = refl
  seated-side (suc h) x p c r = ap₂ (𝓢.node (suc h)) (lower_side p c) (right_side p x r)

  pub inserted-side : (x : Column) (z : Place Tree) → inserted 𝓢 x (map_place (side_of 𝓢) z) ≡ side_of 𝓢 (inserted trees x z)
  inserted-side x z = rw (
    kept-map (side_of 𝓢) x.height z.entries,
    remaining-map (side_of 𝓢) x.height z.entries,
    seated-side x.height x.item (remaining x.height z.entries) z.item z.side,
  ) (plug-side (kept x.height z.entries)
      (seated trees x.height x.item (remaining x.height z.entries) z.item z.side))

  -- PARTING
  module _ (c : Item) (r : Tree) (x : Item) (u : Tree) where
    pub part-side : {p q : List (Entry Tree)} → Part trees c r x u p q
        → Part 𝓢 c (side_of 𝓢 r) x (side_of 𝓢 u) (map entry_of p) (map entry_of q)
    part-side (shared i m) = shared (ap entry_of i) (part-side m)
    part-side (forked {p = p} {q = q} i j n) =
        forked {p = map entry_of p} {q = map entry_of q} i (ap (side_of 𝓢) j ∙ sym (plug-side q (leaf x u)))
        (ap (side_of 𝓢) n ∙ sym (plug-side p (leaf c r)))
    part-side (stopped {q = q} i j) = stopped {q = map entry_of q} i (ap (side_of 𝓢) j ∙ sym (plug-side q (leaf x u)))

    pub only_side : {p q : List (Entry Tree)} (m : Part trees c r x u p q) → Only m → Only (part-side m)
    unfolding part-side
    only_side (shared i m) o = only_side m o
    only_side (forked {p = p} {q = q} i j n) o = (only_rights-map (side_of 𝓢) p ∙ o.0, only_downs-map (side_of 𝓢) q ∙ o.1)
    only_side (stopped {q = q} i j) o = only_downs-map (side_of 𝓢) q ∙ o

  -- THE DOWN ENTRIES OF A RUN
  opened-side : (h : ℕ) (t : Tree) → opened 𝓢 h (side_of 𝓢 t) ≡ map entry_of (opened trees h t)
  opened-side zero t = refl
  opened-side (suc h) t = refl

  closed-side : (h : ℕ) (t : Tree) (p : List (Entry Tree))
      → closed 𝓢 h (side_of 𝓢 t) (map entry_of p) ≡ map entry_of (closed trees h t p)
  closed-side h t [] = opened-side h t
  closed-side h t (e ∷ p) = rw (level-map (side_of 𝓢) e, plug-side (e ∷ p) t) (go (ltb h (level e)) (closed-side h t p))
    where
      go : (b : Bool) → closed 𝓢 h (side_of 𝓢 t) (map entry_of p) ≡ map entry_of (closed trees h t p)
          → cond b (entry_of e ∷ closed 𝓢 h (side_of 𝓢 t) (map entry_of p)) (opened 𝓢 h (side_of 𝓢 (plug trees (e ∷ p) t)))
          ≡ map entry_of (cond b (e ∷ closed trees h t p) (opened trees h (plug trees (e ∷ p) t)))
      go true ih = rw ih
      go false ih = opened-side h (plug trees (e ∷ p) t)

  beside-side : (h : ℕ) (t : Tree) → beside 𝓢 h (side_of 𝓢 t) ≡ side_of 𝓢 (beside trees h t)
  beside-side zero t = refl
  beside-side (suc h) t = refl

  pub side_stop : (B : List Column) → stop_side 𝓢 B ≡ side_of 𝓢 (stop_side trees B)
  side_stop [] = refl
  side_stop (d ∷ B) = rw (side_stop B) (beside-side d.height (leaf d.item (stop_side trees B)))

  pub downs_side : (B : List Column) → down_entries 𝓢 B ≡ map entry_of (down_entries trees B)
  downs_side [] = refl
  downs_side (d ∷ B) = rw (side_stop B, downs_side B)
      (closed-side d.height (leaf d.item (stop_side trees B)) (down_entries trees B))

  -- recomputing them gives what stands for the tree
  pub downs-root : (c : Item) (B : List Column)
      → plug 𝓢 (down_entries 𝓢 B) (𝓢.leaf c (stop_side 𝓢 B)) ≡ side_of 𝓢 (tree c B)
  downs-root c B =
      rw (side_stop B, downs_side B)
      (plug-side (down_entries trees B) (leaf c (stop_side trees B)) ∙ ap (side_of 𝓢) (downs-whole c B))
