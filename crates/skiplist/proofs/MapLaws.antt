-- What other things stand for the sides of a path changes nothing in its kinds and levels.
use Prim.Native.Nat.{ℕ, pred}
use mathlib.Core.Path.{◌≡◌, refl, ap}
use mathlib.Core.Bool.{Bool, true, false, cond}
use mathlib.Core.List.{List, [], ◌∷◌, map}
use lib.Dec.{leb}
use Rattle.skiplist.specs.Entry.{Entry, down, right, pass, map_entry, level, Falls}
use Rattle.skiplist.specs.Merge.{rights, downs, only_rights, only_downs, merge}
use Rattle.skiplist.specs.Edits.{keeps, kept, remaining}

module _ {S R : Type 0} (f : S → R) where
  pub level-map : (e : Entry S) → level (map_entry f e) ≡ level e
  level-map (down l s) = refl
  level-map (right l s) = refl
  level-map (pass c) = refl

  pub falls-map : (h : ℕ) (p : List (Entry S)) → Falls h p → Falls h (map (map_entry f) p)
  falls-map h [] a = tt
  falls-map h (down l s ∷ p) a = (a.0, a.1, falls-map (pred l) p a.2)
  falls-map h (right l s ∷ p) a = (a.0, a.1, falls-map l p a.2)
  falls-map h (pass c ∷ p) a = falls-map 0 p a

  pub rights-map : (p : List (Entry S)) → rights (map (map_entry f) p) ≡ map (map_entry f) (rights p)
  rights-map [] = refl
  rights-map (down l s ∷ p) = rights-map p
  rights-map (right l s ∷ p) = rw (rights-map p)
  rights-map (pass c ∷ p) = rw (rights-map p)

  pub downs-map : (p : List (Entry S)) → downs (map (map_entry f) p) ≡ map (map_entry f) (downs p)
  downs-map [] = refl
  downs-map (down l s ∷ p) = rw (downs-map p)
  downs-map (right l s ∷ p) = downs-map p
  downs-map (pass c ∷ p) = downs-map p

  pub only_rights-map : (p : List (Entry S)) → only_rights (map (map_entry f) p) ≡ only_rights p
  only_rights-map [] = refl
  only_rights-map (down l s ∷ p) = refl
  only_rights-map (right l s ∷ p) = only_rights-map p
  only_rights-map (pass c ∷ p) = only_rights-map p

  pub only_downs-map : (p : List (Entry S)) → only_downs (map (map_entry f) p) ≡ only_downs p
  only_downs-map [] = refl
  only_downs-map (down l s ∷ p) = only_downs-map p
  only_downs-map (right l s ∷ p) = refl
  only_downs-map (pass c ∷ p) = refl

  pub merge-map : (es ds : List (Entry S))
      → merge (map (map_entry f) es) (map (map_entry f) ds) ≡ map (map_entry f) (merge es ds)
  merge-map [] ds = refl
  merge-map (e ∷ es) [] = refl
  merge-map (e ∷ es) (d ∷ ds) = rw (level-map e, level-map d)
      (go (leb (level d) (level e)) (merge-map es (d ∷ ds)) (merge-map (e ∷ es) ds))
    where
      go : (b : Bool) → merge (map (map_entry f) es) (map (map_entry f) (d ∷ ds)) ≡ map (map_entry f) (merge es (d ∷ ds))
          → merge (map (map_entry f) (e ∷ es)) (map (map_entry f) ds) ≡ map (map_entry f) (merge (e ∷ es) ds)
          → cond b (map_entry f e ∷ merge (map (map_entry f) es) (map (map_entry f) (d ∷ ds)))
          (map_entry f d ∷ merge (map (map_entry f) (e ∷ es)) (map (map_entry f) ds))
          ≡ map (map_entry f) (cond b (e ∷ merge es (d ∷ ds)) (d ∷ merge (e ∷ es) ds))
      go true u v = ap (λ q. map_entry f e ∷ q) u
      go false u v = ap (λ q. map_entry f d ∷ q) v

  keeps-map : (h : ℕ) (e : Entry S) → keeps h (map_entry f e) ≡ keeps h e
  keeps-map h (down l s) = refl
  keeps-map h (right l s) = refl
  keeps-map h (pass c) = refl

  pub kept-map : (h : ℕ) (p : List (Entry S)) → kept h (map (map_entry f) p) ≡ map (map_entry f) (kept h p)
  kept-map h [] = refl
  kept-map h (e ∷ p) = rw (keeps-map h e, kept-map h p) (go (keeps h e))
    where
      go : (b : Bool) → cond b (map_entry f e ∷ map (map_entry f) (kept h p)) []
          ≡ map (map_entry f) (cond b (e ∷ kept h p) [])
      go true = refl
      go false = refl

  pub remaining-map : (h : ℕ) (p : List (Entry S)) → remaining h (map (map_entry f) p) ≡ map (map_entry f) (remaining h p)
  remaining-map h [] = refl
  remaining-map h (e ∷ p) = rw (keeps-map h e, remaining-map h p) (go (keeps h e))
    where
      go : (b : Bool) → cond b (map (map_entry f) (remaining h p)) (map_entry f e ∷ map (map_entry f) p)
          ≡ map (map_entry f) (cond b (remaining h p) (e ∷ p))
      go true = refl
      go false = refl
