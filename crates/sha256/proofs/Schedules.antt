-- The message schedule grows a word at a time: the first sixteen are the block's, the others mixed from earlier ones. A schedule of
-- fewer words is the front of a longer one.
-- Assumes nothing.
use Rattle.std.proofs.Common.{◌≡◌, ℕ, zero, suc, ◌+◌, ◌-◌, ◌*◌, ◌<◌, ◌≤◌, List, [], ◌∷◌, length, get_or, take, set, sym, refl, ◌∙◌, add-zero, add-suc, add-one, arith, length-append, take_all, get_or-take, take-suc-set, le-ltb, lt-ltb}
use lib.Seq.{take-append-le, get_or-append_seam}
use Rattle.octets.specs.Numbers.{number_at}
use Rattle.sha256.specs.Hash.{mixed, word, schedule}

-- one more of the block's own words
pub load_more : (b w : List ℕ) (t v : ℕ) → t < 16 → length w ≡ 16 → take t w ≡ schedule b t → v ≡ number_at 4 b (t * 4)
    → take (t + 1) (set w t v) ≡ schedule b (t + 1)
unfolding schedule word
load_more b w t v h l e ev =
    rw (add-one, take-suc-set w t v (omega arith), lt-ltb t 16 h) (cc)

-- the count of a loop that has ended
pub loaded : (b w : List ℕ) (t : ℕ) → length w ≡ 16 → t ≤ 16 → 16 ≤ t → take t w ≡ schedule b t → w ≡ schedule b 16
loaded b w t l h k e = let z : t ≡ 16 = omega arith in sym (take_all 16 w (omega arith)) ∙ (rw z at e)

pub schedule-length : (b : List ℕ) (t : ℕ) → length (schedule b t) ≡ t
unfolding schedule
schedule-length b zero = refl
schedule-length b (suc t) = rw (length-append (schedule b t) (word b (schedule b t) t ∷ []), schedule-length b t) (add-one t)

-- a shorter schedule
front : (b : List ℕ) (t d : ℕ) → take t (schedule b (t + d)) ≡ schedule b t
unfolding schedule
front b t zero = rw (add-zero) (take_all t (schedule b t) (rw (schedule-length b t) (omega arith)))
front b t (suc d) =
    rw (add-suc) (take-append-le t (schedule b (t + d)) (word b (schedule b (t + d)) (t + d) ∷ [])
    (rw (schedule-length b (t + d)) (omega arith)) ∙ front b t d)

pub schedule_front : (b : List ℕ) (t n : ℕ) → t ≤ n → take t (schedule b n) ≡ schedule b t
schedule_front b t n h = let z : t + (n - t) ≡ n = omega arith in rw z at (front b t (n - t))

earlier : (b : List ℕ) (i t n : ℕ) → i < t → t ≤ n → get_or (schedule b t) i 0 ≡ get_or (schedule b n) i 0
earlier b i t n h k = rw (sym (schedule_front b t n k)) (get_or-take t (schedule b n) i 0 h)

-- a word of it
word_at : (b : List ℕ) (t n : ℕ) → t < n → get_or (schedule b n) t 0 ≡ word b (schedule b t) t
unfolding schedule
word_at b t n h =
    sym (earlier b t (suc t) n (omega arith) (omega arith)) ∙
    (rw (schedule-length b t) at (get_or-append_seam (schedule b t) (word b (schedule b t) t) [] 0))

-- a word from 16 on, from words of the same schedule
pub word-mixed : (b : List ℕ) (t n : ℕ) → 16 ≤ t → t < n → get_or (schedule b n) t 0 ≡ mixed (get_or (schedule b n) (t - 2) 0)
    (get_or (schedule b n) (t - 7) 0) (get_or (schedule b n) (t - 15) 0) (get_or (schedule b n) (t - 16) 0)
unfolding word
word-mixed b t n g h =
    word_at b t n h ∙ (rw (
      le-ltb t 16 g,
      earlier b (t - 2) t n (omega arith) (omega arith),
      earlier b (t - 7) t n (omega arith) (omega arith),
      earlier b (t - 15) t n (omega arith) (omega arith),
      earlier b (t - 16) t n (omega arith) (omega arith),
    ) refl)
