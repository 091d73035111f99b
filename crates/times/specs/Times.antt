-- ASK 5, the times alone: what it is for times never to fall, what it is to put one in after p others, and the place of a time: "the time
-- at p is at or before the new time, which is before the time at p + 1".
-- Assumes nothing.
use Rattle.std.specs.Prelude.{ℕ, suc, ◌≤◌, cond, List, [], ◌∷◌, ◌++◌, ltb, take, drop}

-- each is at or after the one before it, the first at or after b
abbrev pub RiseFrom : ℕ → List ℕ → Type 0
RiseFrom b [] = Unit {0}
RiseFrom b (t ∷ ts) = (b ≤ t) × RiseFrom t ts

-- "times never fall"
abbrev pub NeverFall : List ℕ → Type 0
NeverFall ts = RiseFrom 0 ts

-- x put in after the first p
abbrev pub put_after : {A : Type 0} → ℕ → A → List A → List A
put_after p x xs = take p xs ++ x ∷ drop p xs

-- THE PLACE OF t: how many stand before the first that is later; all of them where none is
abbrev pub place_for : List ℕ → ℕ → ℕ
place_for [] t = 0
place_for (u ∷ ts) t = cond (ltb t u) 0 (suc (place_for ts t))
