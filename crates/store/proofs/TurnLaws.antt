-- A turn of the loop that writes a path's entries from the last to the first: `Held` is what holds at each turn, with
-- laws for its start, the room of what is written next, one turn, and the end.
-- Assumes nothing.
use Prim.Native.Nat.{ℕ, zero, suc, ◌+◌, ◌-◌, ◌*◌, ◌≤◌, ◌<◌}
use native.Mathlib.Omega.{arith}
use mathlib.Core.Path.{◌≡◌, refl, ap, sym, ◌∙◌}
use mathlib.Core.List.{List, [], ◌∷◌, ◌++◌}
use lib.ListN.{length, length-append}
use Rattle.octets.specs.Runs.{patch}
use Rattle.octets.proofs.PatchLaws.{patch_none, patch_before}
use Rattle.octets.proofs.PartLaws.{length-part}
use Rattle.skiplist.specs.Limits.{most_height, digest_bytes}
use Rattle.skiplist.specs.Slots.{open_slots}
use Rattle.skiplist.specs.Blocks.{shown}
use Rattle.skiplist.proofs.MergeLaws.{Top, top_up}
use Rattle.labels.specs.declared.Side.{Side}
use Rattle.archive.specs.Form.{image_bytes}
use Rattle.archive.specs.Reading.{height_at}
use Rattle.proofbytes.specs.Layout.{right_kind, entry_size}
use Rattle.proofbytes.specs.Writing.{entries_bytes}
use Rattle.proofbytes.proofs.WriteLaws.{length_fields}
use Rattle.store.specs.Passes.{Sized, item_at, tree_at, nearest, Anchors, bytes_of, span_of, cross_at, rights_at, tail_at}
use Rattle.store.proofs.SlotLaws.{side_sized}
use Rattle.store.proofs.EntryLaws.{Whole, whole_none, whole-append, whole-cons, whole-span, bytes-cons}
use Rattle.store.proofs.EntryLaws.{bytes-append, cross-zero, cross_more}
use Rattle.store.proofs.TailLaws.{Nearest, nearest_is, rights_next, rights_none, cross-level, tail-span}
use Rattle.store.proofs.TailLaws.{tail_next, tail-le, nearest_after}

pub shown_sized : (b : List ℕ) (i : ℕ) → image_bytes i ≤ length b → length (shown (item_at b i)) ≡ digest_bytes
shown_sized b zero k = refl
shown_sized b (suc i) k = length-part b (image_bytes i + 1) digest_bytes (omega arith)

cross_size : (b : List ℕ) (i m h : ℕ) → image_bytes i ≤ length b → length (bytes_of (cross_at b i m h ∷ [])) ≡ entry_size
cross_size b i m zero k =
    ap length (sym (cross-zero b i m 0 (item_at b i).own (shown (item_at b i)) refl refl refl))
    ∙ length_fields right_kind 0 (item_at b i).own (shown (item_at b i)) (shown_sized b i k)
cross_size b i m (suc h) k =
    ap length (sym (cross_more b i m (suc h) _ (λ e. omega arith) refl))
    ∙ length_fields right_kind (suc h) _ _ (side_sized (tree_at b i m))

-- of the path from column f on, the entries past column a are written, below level l: r are left, and those written
-- stand behind them
pub record Held (b : List ℕ) (s : List Side) (at k f p : ℕ) (old buffer : List ℕ) (a l r : ℕ) : Type 0 where
  pub beyond : f ≤ a
  pub within : a ≤ p
  pub low : l ≤ most_height
  pub anchor : 0 < a → l ≤ height_at b (a - 1)
  pub first : Top l (rights_at b p a)
  pub size : length buffer ≡ length old
  pub left : r + length (tail_at b s p a l) ≡ k
  pub whole : Whole (tail_at b s p a l)
  pub here : buffer ≡ patch old (at + entry_size * r) (bytes_of (tail_at b s p a l))

tail_start : (b : List ℕ) (s : List Side) (p : ℕ) → tail_at b s p p 0 ≡ []
unfolding tail_at open_slots
tail_start b s p = rw (rights_none b p)

pub start : (b : List ℕ) (s : List Side) (at k f p : ℕ) (old : List ℕ) → f ≤ p → Held b s at k f p old old p 0 k
unfolding entries_bytes
start b s at k f p old kf =
    let t = tail_start b s p in
    record {
      beyond = kf;
      within = omega arith;
      low = omega arith;
      anchor = λ q. omega arith;
      first = rw (rights_none b p) tt;
      size = refl;
      left = rw t (omega arith);
      whole = rw t whole_none;
      here = rw t (sym (patch_none old (at + entry_size * k)));
    }

module _ (b : List ℕ) (s : List Side) (at k f p : ℕ) (old : List ℕ) (all : length (tail_at b s p f most_height) ≡ k) where
  module _ (c : List ℕ) (a l r : ℕ) (held : Held b s at k f p old c a l r) where
    pub slots_room : (h : ℕ) → l ≤ h → h ≤ most_height → length (span_of s l h) ≤ r
    slots_room h kl kh =
        let e : length (tail_at b s p a h) ≡ length (span_of s l h) + length (tail_at b s p a l) =
        ap length (tail-span b s p a l h held.first kl) ∙ length-append (span_of s l h) (tail_at b s p a l) in
        omega (arith, e, tail-le b s p f a h held.beyond held.within kh, held.left)

    module _ (more : f < a) (tall : Anchors b f p) (h : ℕ) (eh : h ≡ height_at b (a - 1)) (kh : h ≤ most_height) (q : ℕ)
        (eq : q + length (span_of s l h) ≡ r)
        (i : ℕ) (ei : i ≡ nearest b h (a - 1)) where
      next : Nearest b h (a - 1) i
      next = rw ei (nearest_is b h (a - 1))

      some : 0 < a
      some = omega arith

      ahead : f ≤ i
      ahead =
          rw ei (nearest_after b h (a - 1) f (omega arith)
          (λ q. omega (arith, eh, tall (a - 1) q (omega arith) (omega (arith, held.within)))))

      rising : l ≤ h
      rising = omega (arith, held.anchor some, eh)

      longer : tail_at b s p i h ≡ cross_at b i (a - 1) h ∷ (span_of s l h ++ tail_at b s p a l)
      longer = tail_next b s p a l h i some held.within eh ei held.first rising

      count : length (tail_at b s p i h) ≡ suc (length (span_of s l h) + length (tail_at b s p a l))
      count = ap length longer ∙ ap suc (length-append (span_of s l h) (tail_at b s p a l))

      pub right_room : 1 ≤ q
      right_room =
          omega (arith, count, tail-le b s p f i h ahead (omega (arith, next.before, held.within)) kh, held.left)

      first_next : Top h (rights_at b p i)
      first_next =
          rw (
            rights_next b p a h i some held.within eh ei (top_up l h (rights_at b p a) rising held.first),
            cross-level b i (a - 1) h,
          )
          (omega arith)

      pub turn : (d e : List ℕ) → Sized s → image_bytes p ≤ length b → at + entry_size * k ≤ length old
          → d ≡ patch c (at + entry_size * q) (bytes_of (span_of s l h)) → length d ≡ length c
          → e ≡ patch d (at + entry_size * (q - 1)) (bytes_of (cross_at b i (a - 1) h ∷ [])) → length e ≡ length d
          → Held b s at k f p old e i h (q - 1)
      turn d e z kb ko ed ld ee le =
          let x = cross_at b i (a - 1) h in
          let t = tail_at b s p a l in
          let o = span_of s l h in
          let x38 = cross_size b i (a - 1) h (omega (arith, next.before, held.within)) in
          let wo : Whole o = whole-span s l h z in
          let q1 = right_room in
          let d_is : d ≡ patch old (at + entry_size * q) (bytes_of (o ++ t)) =
          ed
          ∙ rw held.here
          (patch_before old (bytes_of o) (bytes_of t) (at + entry_size * q) (at + entry_size * r) (omega (arith, wo))
          (omega (arith, held.left))
          ∙ ap (patch old (at + entry_size * q)) (sym (bytes-append o t))) in
          let e_is : e ≡ patch old (at + entry_size * (q - 1)) (bytes_of (x ∷ (o ++ t))) =
          ee
          ∙ rw d_is
          (patch_before old (bytes_of (x ∷ [])) (bytes_of (o ++ t)) (at + entry_size * (q - 1)) (at + entry_size * q)
          (omega (arith, x38, q1))
          (omega (arith, held.left))
          ∙ ap (patch old (at + entry_size * (q - 1))) (sym (bytes-cons x (o ++ t)))) in
          record {
            beyond = ahead;
            within = omega (arith, next.before, held.within);
            low = kh;
            anchor = next.high;
            first = first_next;
            size = le ∙ ld ∙ held.size;
            left = omega (arith, count, held.left, q1);
            whole = rw longer (whole-cons x (o ++ t) x38 (whole-append o t wo held.whole));
            here = rw longer e_is;
          }

  pub done : (c d : List ℕ) (a l r q : ℕ) → Held b s at k f p old c a l r → a ≤ f → Sized s
      → at + entry_size * k ≤ length old
      → q + length (span_of s l most_height) ≡ r → d ≡ patch c (at + entry_size * q) (bytes_of (span_of s l most_height))
      → (d ≡ patch old at (bytes_of (tail_at b s p f most_height))) × Whole (tail_at b s p f most_height)
  done c d a l r q held ka z ko eq ed =
      let af : a ≡ f = omega (arith, held.beyond) in
      let o = span_of s l most_height in
      let t = tail_at b s p a l in
      let wo : Whole o = whole-span s l most_height z in
      let w : tail_at b s p f most_height ≡ o ++ t =
      ap (λ x. tail_at b s p x most_height) (sym af) ∙ tail-span b s p a l most_height held.first held.low in
      let n : k ≡ length o + length t = sym all ∙ ap length w ∙ length-append o t in
      let q0 : at + entry_size * q ≡ at = omega (arith, n, held.left) in (
        ed
            ∙ rw held.here
            (patch_before old (bytes_of o) (bytes_of t) (at + entry_size * q) (at + entry_size * r) (omega (arith, wo))
            (omega (arith, held.left))
            ∙ rw (q0, w) (ap (patch old at) (sym (bytes-append o t)))),
        rw w (whole-append o t wo held.whole),
      )
