-- What `sound` says, part by part: what a sound buffer is known to have.
-- Assumes nothing.
use Prim.Native.Nat.{ℕ, zero, suc, ◌+◌, ◌-◌, ◌≤◌, ◌<◌}
use native.Mathlib.Omega.{arith}
use mathlib.Core.Path.{◌≡◌, sym, ap, ◌∙◌}
use mathlib.Core.Logic.{◌⊎◌, inl, inr}
use mathlib.Core.Bool.{true, false, ◌&&◌}
use mathlib.Core.List.{List}
use lib.Dec.{eqb, leb}
use lib.ListN.{length}
use borrow.Author.Tests.{le-leb, lt-leb, eq-eqb, leb-true, eqb-true}
use Rattle.octets.specs.Numbers.{number_at}
use Rattle.skiplist.specs.Limits.{most_blocks, most_height}
use Rattle.skiplist.specs.Row.{AtMost}
use Rattle.skiplist.specs.Blocks.{row}
use Rattle.skiplist.proofs.Cases.{order, both}
use Rattle.archive.specs.Form.{image_version, length_place, length_bytes, header_bytes, rest_bytes, image_bytes}
use Rattle.archive.specs.Reading.{count_of, height_at, blocks_from, held, low, framed, sound}

-- ---- what a sound buffer has
pub record Framed (b : List ℕ) : Type 0 where
  pub long : header_bytes ≤ length b
  pub version : number_at 1 b 0 ≡ image_version
  pub rest : number_at length_bytes b length_place ≡ rest_bytes (count_of b)
  pub few : count_of b ≤ most_blocks
  pub room : image_bytes (count_of b) ≤ length b

pub framed_is : (b : List ℕ) → framed b ≡ true → Framed b
unfolding framed
framed_is b e =
    let p = both (leb header_bytes (length b)) _ e in
    let q = both (eqb (number_at 1 b 0) image_version) _ p.1 in
    let r = both (eqb (number_at length_bytes b length_place) (rest_bytes (count_of b))) _ q.1 in
    let s = both (leb (count_of b) most_blocks) _ r.1 in
    record {
      long = leb-true header_bytes (length b) p.0;
      version = eqb-true (number_at 1 b 0) image_version q.0;
      rest = eqb-true (number_at length_bytes b length_place) (rest_bytes (count_of b)) r.0;
      few = leb-true (count_of b) most_blocks s.0;
      room = leb-true (image_bytes (count_of b)) (length b) s.1;
    }

pub is_framed : (b : List ℕ) → Framed b → framed b ≡ true
unfolding framed
is_framed b f =
    rw (
      le-leb header_bytes (length b) f.long,
      eq-eqb (number_at 1 b 0) image_version f.version,
      eq-eqb (number_at length_bytes b length_place) (rest_bytes (count_of b)) f.rest,
      le-leb (count_of b) most_blocks f.few,
      le-leb (image_bytes (count_of b)) (length b) f.room,
    )

pub record Sound (b : List ℕ) : Type 0 where
  pub frame : Framed b
  pub heights : low b (count_of b) ≡ true

pub sound_is : (b : List ℕ) → sound b ≡ true → Sound b
unfolding sound
sound_is b e = let p = both (framed b) (low b (count_of b)) e in record { frame = framed_is b p.0; heights = p.1 }

pub is_sound : (b : List ℕ) → Sound b → sound b ≡ true
unfolding sound
is_sound b s = rw (is_framed b s.frame, s.heights)

-- ---- heights
module _ (b : List ℕ) (i h : ℕ) (some : 0 < i) (eh : h ≡ height_at b (i - 1)) where
  before : i ≡ suc (i - 1)
  before = omega arith

  pub low_stop : most_height < h → low b i ≡ false
  unfolding low
  low_stop k = ap (low b) before ∙ rw (lt-leb (height_at b (i - 1)) most_height (rw eh at k))

  pub low_on : h ≤ most_height → low b (i - 1) ≡ low b i
  unfolding low
  low_on k = sym (ap (low b) before ∙ rw (le-leb (height_at b (i - 1)) most_height (rw eh at k)))

pub low_none : (b : List ℕ) (i : ℕ) → i ≤ 0 → low b i ≡ true
unfolding low
low_none b i k = let e : i ≡ 0 = omega arith in rw e

pub low_at : (b : List ℕ) (n j : ℕ) → low b n ≡ true → j < n → height_at b j ≤ most_height
unfolding low
low_at b zero j e k = absurd (omega arith)
low_at b (suc n) j e k = go (order j n) (λ h. low_at b n j (both (leb (height_at b n) most_height) (low b n) e).1 h)
  where
    go : (j < n) ⊎ (n ≤ j) → (j < n → height_at b j ≤ most_height) → height_at b j ≤ most_height
    go (inl h) ih = ih h
    go (inr h) ih =
        let q : j ≡ n = omega arith in
        rw q (leb-true (height_at b n) most_height (both (leb (height_at b n) most_height) (low b n) e).0)

pub low_run : (b : List ℕ) (n i k : ℕ) → low b n ≡ true → i + k ≤ n → AtMost most_height (row (blocks_from b i k))
unfolding blocks_from
low_run b n i zero e h = tt
low_run b n i (suc k) e h = (low_at b n i e (omega arith), low_run b n (suc i) k e (omega arith))

-- what a position with a record says
pub held_is : (b : List ℕ) (p : ℕ) → held b p ≡ true → (1 ≤ p) × (p ≤ most_blocks) × (image_bytes p ≤ length b)
unfolding held
held_is b p e =
    let f = both (leb 1 p) (leb p most_blocks && leb (image_bytes p) (length b)) e in
    let g = both (leb p most_blocks) (leb (image_bytes p) (length b)) f.1 in
    (leb-true 1 p f.0, leb-true p most_blocks g.0, leb-true (image_bytes p) (length b) g.1)
