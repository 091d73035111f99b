-- The blocks of an archive beside its row: what stands at a place of the one stands at that place of the other, also after a block is put
-- in; and the times of the blocks are those of the list.
-- Assumes nothing.
use Prim.Native.Nat.{ℕ, zero, suc, ◌≤◌, ◌<◌}
use native.Mathlib.Omega.{arith}
use mathlib.Core.Path.{◌≡◌, refl, ap}
use mathlib.Core.List.{List, [], ◌∷◌, Memᴰ}
use lib.ListN.{length, get_or, get_or-map}
use Rattle.skiplist.specs.Blocks.{Block, tag_after}
use Rattle.labels.specs.Tags.{most_readings}
use Rattle.times.specs.Times.{put_after}
use Rattle.filer.specs.Filing.{Timed, tag_for}
use Rattle.filer.specs.Archive.{Stand, times_of, block_after, NoneLong}

pub stand-length : (xs : List Timed) (bs : List Block) → Stand xs bs → length xs ≡ length bs
stand-length [] [] s = refl
stand-length [] (b ∷ bs) s = absurd s
stand-length (x ∷ xs) [] s = absurd s
stand-length (x ∷ xs) (b ∷ bs) s = ap suc (stand-length xs bs s.1)

pub stand-tag : (xs : List Timed) (bs : List Block) (i : ℕ) → Stand xs bs → i < length bs
    → tag_for (block_after i xs) ≡ tag_after i bs
stand-tag [] [] i s h = absurd (omega (arith, h))
stand-tag [] (b ∷ bs) i s h = absurd s
stand-tag (x ∷ xs) [] i s h = absurd s
stand-tag (x ∷ xs) (b ∷ bs) zero s h = s.0
stand-tag (x ∷ xs) (b ∷ bs) (suc i) s h = stand-tag xs bs i s.1 (omega (arith, h))

pub stand-put : (p : ℕ) (x : Timed) (b : Block) (xs : List Timed) (bs : List Block) → Stand xs bs → tag_for x ≡ b.tag
    → Stand (put_after p x xs) (put_after p b bs)
stand-put zero x b xs bs s e = (e, s)
stand-put (suc p) x b [] [] s e = (e, tt)
stand-put (suc p) x b [] (c ∷ bs) s e = absurd s
stand-put (suc p) x b (y ∷ xs) [] s e = absurd s
stand-put (suc p) x b (y ∷ xs) (c ∷ bs) s e = (s.0, stand-put p x b xs bs s.1 e)

pub block_in : (xs : List Timed) (i : ℕ) → i < length xs → Memᴰ (block_after i xs) xs
block_in [] i h = absurd (omega (arith, h))
block_in (x ∷ xs) zero h = Memᴰ.head refl
block_in (x ∷ xs) (suc i) h = Memᴰ.tail (block_in xs i (omega (arith, h)))

pub block_short : (xs : List Timed) (i : ℕ) → NoneLong xs → i < length xs → length (block_after i xs).readings ≤ most_readings
block_short [] i n h = absurd (omega (arith, h))
block_short (x ∷ xs) zero n h = n.0
block_short (x ∷ xs) (suc i) n h = block_short xs i n.1 (omega (arith, h))

-- THE TIMES
pub times-put : (p : ℕ) (x : Timed) (xs : List Timed) → times_of (put_after p x xs) ≡ put_after p x.time (times_of xs)
times-put zero x xs = refl
times-put (suc p) x [] = refl
times-put (suc p) x (y ∷ xs) = ap (λ (ts : List ℕ). y.time ∷ ts) (times-put p x xs)

pub time_after : (i : ℕ) (xs : List Timed) → get_or (times_of xs) i 0 ≡ (block_after i xs).time
time_after i xs = get_or-map (λ (x : Timed). x.time) xs i (record { time = 0; readings = [] })
