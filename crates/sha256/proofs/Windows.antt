-- A window of sixteen words on the message schedule, which moves on by one with every round.
-- Assumes nothing.
use Rattle.std.proofs.Common.{◌≡◌, ℕ, zero, suc, ◌+◌, ◌-◌, ◌<◌, ◌≤◌, List, [], ◌∷◌, ◌++◌, length, get_or, set, sym, refl, ◌∙◌, add-zero, add-one, arith, get_or-set_other, get_or-take, get_or-set_same}
use Rattle.octets.specs.Runs.{part}
use Rattle.octets.proofs.PartLaws.{length-part, part_none, part-cons, part-snoc, get_or-part}
use Rattle.sha256.specs.Constants.{constants}
use Rattle.sha256.specs.Hash.{mixed, schedule, round, rounds}
use Rattle.sha256.specs.Window.{Before}
use Rattle.sha256.proofs.Rounds.{round_more}
use Rattle.sha256.proofs.Schedules.{schedule-length, schedule_front, word-mixed}

-- the k elements of a list from a on, one by one, and r
spelled : List ℕ → ℕ → ℕ → List ℕ → List ℕ
spelled xs a zero r = r
spelled xs a (suc k) r = get_or xs a 0 ∷ spelled xs (suc a) k r

spelled-part : (xs ys r : List ℕ) (a b k : ℕ) → ((i : ℕ) → i < k → get_or xs (a + i) 0 ≡ get_or ys (b + i) 0)
    → b + k ≤ length ys → spelled xs a k r ≡ part ys b k ++ r
unfolding spelled
spelled-part xs ys r a b zero f h = rw (part_none ys b)
spelled-part xs ys r a b (suc k) f h =
    let g : get_or xs a 0 ≡ get_or ys b 0 = rw (add-zero a, add-zero b) at (f 0 (omega arith)) in
    rw (
      part-cons ys b k (omega arith),
      g,
      spelled-part xs ys r (suc a) (suc b) k
          (λ i l.
          let p : a + suc i ≡ suc a + i = omega arith in
          let q : b + suc i ≡ suc b + i = omega arith in
          rw (p, q) at (f (suc i) (omega arith))) (omega arith),
    )

-- sixteen words, turned by one
abbrev turned : List ℕ → List ℕ
turned w =
    get_or w 1 0 ∷ get_or w 2 0 ∷ get_or w 3 0 ∷ get_or w 4 0 ∷ get_or w 5 0 ∷ get_or w 6 0 ∷ get_or w 7 0 ∷ get_or w 8 0 ∷
    get_or w 9 0 ∷ get_or w 10 0 ∷ get_or w 11 0 ∷ get_or w 12 0 ∷ get_or w 13 0 ∷ get_or w 14 0 ∷ get_or w 15 0 ∷ get_or w 0 0 ∷ []

-- in the window on ys from a on the word after it takes the place of the first
put_first : (ys w : List ℕ) (a x : ℕ) → a + 16 < length ys → w ≡ part ys a 16 → x ≡ get_or ys (a + 16) 0
    → get_or (set w 0 x) 0 0 ≡ get_or ys (a + 16) 0
put_first ys w a x h e ex =
    get_or-set_same w 0 x 0 (rw (e, length-part ys a 16 (omega arith)) (omega arith)) ∙ ex

-- and the window, turned, is the one from a + 1 on
moved : (ys w : List ℕ) (a x : ℕ) → a + 16 < length ys → w ≡ part ys a 16 → x ≡ get_or ys (a + 16) 0
    → turned (set w 0 x) ≡ part ys (a + 1) 16
unfolding spelled
moved ys w a x h e ex =
    let n : a + 1 + 15 ≡ a + 16 = omega arith in
    spelled-part (set w 0 x) ys (get_or (set w 0 x) 0 0 ∷ []) 1 (a + 1) 15
    (λ i l.
    let m : a + (1 + i) ≡ a + 1 + i = omega arith in
    get_or-set_other w 0 (1 + i) x 0 (λ z. omega (arith, z)) ∙ rw (e, get_or-part ys a 16 (1 + i) (omega arith), m))
    (omega arith)
    ∙ (rw (put_first ys w a x h e ex, sym n) (sym (part-snoc ys (a + 1) 15 (omega arith))))

-- a word of the window
seen : (ys w : List ℕ) (a i j : ℕ) → w ≡ part ys a 16 → i < 16 → a + i ≡ j → get_or w i 0 ≡ get_or ys j 0
seen ys w a i j e h k = rw (e, get_or-part ys a 16 i h, k)

-- the word of round t, from the window before it
next_made : (b w : List ℕ) (t x : ℕ) → 16 ≤ t → t < 64 → w ≡ part (schedule b 64) (t - 16) 16
    → x ≡ mixed (get_or w 14 0) (get_or w 9 0) (get_or w 1 0) (get_or w 0 0) → x ≡ get_or (schedule b 64) t 0
next_made b w t x g h e ex =
    ex ∙ (rw (
      seen (schedule b 64) w (t - 16) 14 (t - 2) e (omega arith) (omega arith),
      seen (schedule b 64) w (t - 16) 9 (t - 7) e (omega arith) (omega arith),
      seen (schedule b 64) w (t - 16) 1 (t - 15) e (omega arith) (omega arith),
      seen (schedule b 64) w (t - 16) 0 (t - 16) e (omega arith) (omega arith),
    ) (sym (word-mixed b t 64 g h)))

-- one round more
pub stepped : (b v s w r : List ℕ) (k x t : ℕ) → 16 ≤ t → t < 64 → k ≡ get_or constants t 0
    → x ≡ mixed (get_or w 14 0) (get_or w 9 0) (get_or w 1 0) (get_or w 0 0) → r ≡ round s k (get_or (set w 0 x) 0 0) → Before b v t s w
    → Before b v (t + 1) r (turned (set w 0 x))
stepped b v s w r k x t g h ek ex er i =
    let m : t - 16 + 16 ≡ t = omega arith in
    let n : t - 16 + 1 ≡ t + 1 - 16 = omega arith in
    let l : t - 16 + 16 < length (schedule b 64) = rw (m, schedule-length b 64) h in
    let ew : x ≡ get_or (schedule b 64) (t - 16 + 16) 0 = rw m (next_made b w t x g h i.words ex) in
    let eu = rw m at (put_first (schedule b 64) w (t - 16) x l i.words ew) in record {
      variables = rw add-one (round_more (schedule b 64) v s r t k ek (rw eu at er) i.variables);
      words = rw n at (moved (schedule b 64) w (t - 16) x l i.words ew);
    }

-- the first sixteen rounds, which read no other words
rounds_front : (b u v : List ℕ) (t : ℕ) → t ≤ 16 → u ≡ schedule b 16 → rounds u v t ≡ rounds (schedule b 64) v t
unfolding rounds
rounds_front b u v zero h e = refl
rounds_front b u v (suc t) h e =
    let w : get_or u t 0 ≡ get_or (schedule b 64) t 0 =
    rw (e, sym (schedule_front b 16 64 (omega arith))) (get_or-take 16 (schedule b 64) t 0 (omega arith)) in
    rw (rounds_front b u v t (omega arith) e, w)

pub begun : (b v s w : List ℕ) → w ≡ schedule b 16 → s ≡ rounds w v 16 → Before b v 16 s w
unfolding part
begun b v s w ew es = record {
  variables = es ∙ rounds_front b w v 16 (omega arith) ew;
  words = ew ∙ sym (schedule_front b 16 64 (omega arith));
}

-- a step's promise, for round n, which is the round j of the sixteen from t on
pub onward : {b v s w r u : List ℕ} {k t n : ℕ} → 16 ≤ t → t + 16 ≤ 64 → (j : ℕ) → j < 16 → n ≡ t + j
    → ((b v : List ℕ) (t : ℕ) → 16 ≤ t → t < 64 → k ≡ get_or constants t 0 → Before b v t s w → Before b v (t + 1) r u)
    → (n < 64 → k ≡ get_or constants n 0) → Before b v n s w → Before b v (t + suc j) r u
onward {b} {v} {t = t} {n = n} g h j l m f ek e =
    let z : n + 1 ≡ t + suc j = omega arith in
    rw z at (f b v n (omega arith) (omega arith) (ek (omega arith)) e)
