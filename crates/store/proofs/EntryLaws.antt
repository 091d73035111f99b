-- The bytes of entries over the code's sides: each has 38 bytes, the entries of open slots are written one before the
-- other, and what the code writes for a slot or a crossing is that entry's bytes.
-- Assumes nothing.
use Prim.Native.Nat.{ℕ, zero, suc, ◌+◌, ◌-◌, ◌*◌, ◌≤◌, ◌<◌}
use native.Mathlib.Omega.{arith}
use mathlib.Core.Path.{◌≡◌, refl, ap, sym, ◌∙◌}
use mathlib.Core.Logic.{◌⊎◌, inl, inr}
use mathlib.Core.Bool.{Bool, true, false, cond}
use mathlib.Core.List.{List, [], ◌∷◌, ◌++◌, append_assoc, append-nil}
use lib.ListN.{length, get_or, length-append}
use lib.Dec.{ltb}
use borrow.Author.Tests.{lt-ltb, le-ltb}
use Rattle.octets.specs.Runs.{patch}
use Rattle.octets.proofs.PatchLaws.{of_part, patch_none, patch_before}
use Rattle.skiplist.specs.Limits.{digest_bytes}
use Rattle.skiplist.specs.Tree.{Tree, empty, leaf, node}
use Rattle.skiplist.specs.Sides.{side_of}
use Rattle.skiplist.specs.Entry.{Entry, down, right, pass, map_entry}
use Rattle.skiplist.specs.Blocks.{shown}
use Rattle.skiplist.proofs.Cases.{order}
use Rattle.skiplist.proofs.GoodTree.{NonEmpty, tree_full}
use Rattle.labels.specs.declared.Side.{Side}
use Rattle.labels.specs.CodeSides.{to_side, no_side, leaf_of, node_of, coded}
use Rattle.proofbytes.specs.Layout.{down_kind, right_kind, entry_size}
use Rattle.proofbytes.specs.Writing.{field_bytes, entry_bytes, entries_bytes}
use Rattle.proofbytes.proofs.WriteLaws.{length-header, length_fields, length-stop}
use Rattle.store.specs.Passes.{slot_of, Sized, item_at, run_of, tree_at, bytes_of, open_of, span_of, cross_at}
use Rattle.std.proofs.lemmas.List.{get_or_default}

-- a lent part that is written comes back as a patch
pub ruleset lent = (of_part, length-header, length_fields, length-stop)

pub bytes-cons : (e : Entry Side) (p : List (Entry Side)) → bytes_of (e ∷ p) ≡ bytes_of (e ∷ []) ++ bytes_of p
unfolding entries_bytes
bytes-cons e p = ap (λ (x : List ℕ). x ++ bytes_of p) (sym (append-nil (entry_bytes (map_entry to_side e))))

pub bytes-append : (p q : List (Entry Side)) → bytes_of (p ++ q) ≡ bytes_of p ++ bytes_of q
unfolding entries_bytes
bytes-append [] q = refl
bytes-append (e ∷ p) q = rw (bytes-append p q) (sym (append_assoc (entry_bytes (map_entry to_side e)) (bytes_of p)
    (bytes_of q)))

-- "entries from the root, 38 bytes each"
abbrev pub Whole : List (Entry Side) → Type 0
Whole p = length (bytes_of p) ≡ entry_size * length p

pub whole_none : Whole []
unfolding entries_bytes
whole_none = refl

pub whole-append : (p q : List (Entry Side)) → Whole p → Whole q → Whole (p ++ q)
whole-append p q a b = rw (bytes-append p q, length-append (bytes_of p) (bytes_of q), length-append p q)
    (omega (arith, a, b))

pub whole-cons : (e : Entry Side) (p : List (Entry Side)) → length (bytes_of (e ∷ [])) ≡ entry_size → Whole p
    → Whole (e ∷ p)
whole-cons e p a b = rw (bytes-cons e p, length-append (bytes_of (e ∷ [])) (bytes_of p)) (omega (arith, a, b))

-- ---- one entry
down-bytes : (l : ℕ) (s : Side) → s.empty ≡ false → bytes_of (down l s ∷ [])
    ≡ field_bytes down_kind l s.rank s.label
unfolding entries_bytes
down-bytes l s e = append-nil (entry_bytes (down l (to_side s))) ∙ rw e

right-bytes : (l : ℕ) (s : Side) → s.empty ≡ false → bytes_of (right l s ∷ [])
    ≡ field_bytes right_kind l s.rank s.label
unfolding entries_bytes
right-bytes l s e = append-nil (entry_bytes (right l (to_side s))) ∙ rw e

pub open_none : (l : ℕ) (s : Side) → s.empty ≡ true → open_of l s ≡ []
open_none l s e = rw e

pub open_one : (l : ℕ) (s : Side) → s.empty ≡ false → open_of l s ≡ down l s ∷ []
open_one l s e = rw e

pub open-bytes : (l : ℕ) (s : Side) → s.empty ≡ false → field_bytes down_kind l s.rank s.label
    ≡ bytes_of (open_of l s)
open-bytes l s e = sym (ap bytes_of (open_one l s e) ∙ down-bytes l s e)

pub no_bytes : (l : ℕ) (s : Side) → s.empty ≡ true → bytes_of (open_of l s) ≡ []
unfolding entries_bytes
no_bytes l s e = ap bytes_of (open_none l s e)

whole-open : (l : ℕ) (s : Side) → length s.label ≡ digest_bytes → Whole (open_of l s)
whole-open l s k = go s.empty refl
  where
    go : (b : Bool) → s.empty ≡ b → Whole (cond b [] (down l s ∷ []))
    go true e = whole_none
    go false e = rw (down-bytes l s e) (length_fields down_kind l s.rank s.label k)

pub full_side : (t : Tree) → NonEmpty t → (side_of coded t).empty ≡ false
unfolding leaf_of node_of
full_side empty n = absurd n
full_side (leaf c r) n = refl
full_side (node l a b) n = refl

pub cross-zero : (b : List ℕ) (i m h own : ℕ) (tag : List ℕ) → h ≡ 0 → own ≡ (item_at b i).own → tag ≡ shown (item_at b i)
    → field_bytes right_kind 0 own tag ≡ bytes_of (cross_at b i m h ∷ [])
unfolding cross_at entries_bytes
cross-zero b i m h own tag e eo et = rw (e, eo, et) (sym (append-nil (entry_bytes (pass (item_at b i)))))

pub cross_more : (b : List ℕ) (i m h : ℕ) (t : Side) → (h ≡ 0 → ⊥) → t ≡ side_of coded (tree_at b i m)
    → field_bytes right_kind h t.rank t.label ≡ bytes_of (cross_at b i m h ∷ [])
unfolding cross_at
cross_more b i m zero t e et = absurd (e refl)
cross_more b i m (suc h) t e et =
    rw et (sym (right-bytes (suc h) (side_of coded (tree_at b i m))
    (full_side (tree_at b i m) (tree_full (item_at b i) (run_of b i m)))))

pub ruleset crossed = (cross-zero, cross_more)

pub ruleset opened = (open_none, open_one, open-bytes, no_bytes, patch_none)

-- ---- the entries of several slots
pub span_next : (s : List Side) (l m : ℕ) (d : Side) → l < m → m < length s
    → open_of m (get_or s m d) ++ span_of s l (m - 1) ≡ span_of s l m
unfolding span_of
span_next s l zero d k h = absurd (omega arith)
span_next s l (suc m) d k h =
    let q : suc m - 1 ≡ m = omega arith in rw (get_or_default s (suc m) d no_side h, q) (sym (rw (lt-ltb l (suc m) k)))

pub span_none : (s : List Side) (l m : ℕ) → m ≤ l → span_of s l m ≡ []
unfolding span_of
span_none s l zero k = refl
span_none s l (suc m) k = rw (le-ltb l (suc m) k)

span-le : (s : List Side) (l m h : ℕ) → m ≤ h → length (span_of s l m) ≤ length (span_of s l h)
unfolding span_of
span-le s l m zero k = let e : m ≡ 0 = omega arith in rw e (omega arith)
span-le s l m (suc h) k = go (order m (suc h)) (order l (suc h)) (λ q. span-le s l m h q)
  where
    go : (m < suc h) ⊎ (suc h ≤ m) → (l < suc h) ⊎ (suc h ≤ l) → (m ≤ h → length (span_of s l m) ≤ length (span_of s l h))
        → length (span_of s l m) ≤ length (span_of s l (suc h))
    go (inl x) (inl y) ih =
        rw (lt-ltb l (suc h) y, length-append (open_of (suc h) (slot_of s (suc h))) (span_of s l h))
        (omega (arith, ih (omega arith)))
    go (inl x) (inr y) ih = rw (le-ltb l (suc h) y, span_none s l m (omega arith)) (omega arith)
    go (inr x) y ih = let e : m ≡ suc h = omega arith in rw e (omega arith)

pub whole-span : (s : List Side) (l m : ℕ) → Sized s → Whole (span_of s l m)
unfolding span_of
whole-span s l zero z = whole_none
whole-span s l (suc m) z = go (ltb l (suc m)) (whole-span s l m z)
  where
    go : (b : Bool) → Whole (span_of s l m) → Whole (cond b (open_of (suc m) (slot_of s (suc m)) ++ span_of s l m) [])
    go true ih = whole-append (open_of (suc m) (slot_of s (suc m))) (span_of s l m)
        (whole-open (suc m) (slot_of s (suc m)) (z (suc m))) ih
    go false ih = whole_none

-- what one more slot leaves in the buffer
module _ (s : List Side) (l m h r q : ℕ) (d : Side) (low : l < m) (more : m ≤ h) (size : h < length s)
    (eq : q + length (span_of s l (m - 1)) ≡ r) where
  next_count : length (open_of m (get_or s m d)) + length (span_of s l (m - 1)) ≡ length (span_of s l m)
  next_count =
      sym (length-append (open_of m (get_or s m d)) (span_of s l (m - 1)))
      ∙ ap length (span_next s l m d low (omega arith))

  pub span_room : length (span_of s l h) ≤ r → length (open_of m (get_or s m d)) ≤ q
  span_room f = omega (arith, next_count, span-le s l m h more)

  pub span_put : (b c y : List ℕ) (at u : ℕ) → Sized s → at + entry_size * r ≤ length b
      → c ≡ patch b (at + entry_size * q) (bytes_of (span_of s l (m - 1))) → u + length (open_of m (get_or s m d)) ≡ q
      → y ≡ patch c (at + entry_size * u) (bytes_of (open_of m (get_or s m d)))
      → (u + length (span_of s l m) ≡ r) × (y ≡ patch b (at + entry_size * u) (bytes_of (span_of s l m)))
  span_put b c y at u sz f ec eu ey =
      let o = open_of m (get_or s m d) in
      let lo : Whole o =
      whole-open m (get_or s m d) (ap (λ (x : Side). length x.label)
      (get_or_default s m d no_side (omega arith)) ∙ sz m) in
      let v : at + entry_size * u + length (bytes_of o) ≡ at + entry_size * q = omega (arith, lo) in (
        omega (arith, next_count, eu, eq),
        ey
            ∙ rw ec (patch_before b (bytes_of o) (bytes_of (span_of s l (m - 1))) (at + entry_size * u) (at + entry_size * q) v
            (omega arith))
            ∙ ap (patch b (at + entry_size * u)) (sym (bytes-append o (span_of s l (m - 1)))
            ∙ ap bytes_of (span_next s l m d low (omega arith))),
      )

pub ruleset spans = (span_none, patch_none)
