-- A proof checked over entries that it shares: the root over one side is the root over an equal one.
-- Assumes nothing.
use Prim.Native.Nat.{ℕ, ◌+◌, ◌-◌, ◌≤◌}
use native.Mathlib.Omega.{arith}
use mathlib.Core.Path.{◌≡◌, sym, ap, ap₂, ◌∙◌}
use mathlib.Core.Bool.{Bool, true, false}
use mathlib.Core.List.{List, ◌++◌}
use Rattle.octets.specs.Runs.{same}
use Rattle.octets.proofs.RunLaws.{same-true, same_refl}
use Rattle.labels.specs.declared.Side.{Side}
use Rattle.commands.specs.declared.Metadata.{Metadata}
use Rattle.proofbytes.specs.Reading.{entries_from, count_of}
use Rattle.gateway.specs.Climbing.{climbed, taken, stop_leaf, below_of}
use Rattle.std.specs.Prelude.{Ok, Err, min}
use Rattle.gateway.specs.declared.examine.Fault.TheVariants.{Mislabelled}
use Rattle.gateway.specs.Working.{recomputed_of}
use Rattle.gateway.proofs.Climbs.{climbed-append, taken_all}
use Rattle.gateway.proofs.Exact.{entries_split}
use Rattle.jointgateway.specs.Working.{settled_of}

pub side_is : {a b : Side} {r : Bool} → a.empty ≡ false → b.empty ≡ false → a.rank ≡ b.rank
    → r ≡ same a.label b.label → r ≡ true → a ≡ b
side_is {a} {b} ea eb er e t =
    let l = same-true a.label b.label (sym e ∙ t) in
    λ i. record { rank = er i; label = l i; empty = (ea ∙ sym eb) i }

-- climbing to a place and on is climbing at once
pub climb_join : (w : List ℕ) (i j k : ℕ) (t : Side) → i ≤ j → j ≤ k
    → climbed (entries_from w i (j - i)) (climbed (entries_from w j (k - j)) t) ≡ climbed (entries_from w i (k - i)) t
climb_join w i j k t a b =
    let e : i + (j - i) ≡ j = omega arith in
    let n : (j - i) + (k - j) ≡ k - i = omega arith in
    sym (climbed-append (entries_from w i (j - i)) (entries_from w j (k - j)) t)
    ∙ ap (λ p. climbed p t)
    (ap (λ x. entries_from w i (j - i) ++ entries_from w x (k - j)) (sym e) ∙ sym (entries_split w (j - i) i (k - j))
    ∙ ap (entries_from w i) n)

module _ (w : List ℕ) (m : Metadata) (c : ℕ) where
  pub settled_same : {x t u : Side} → (climbed (entries_from w 0 c) t).label ≡ m.label → x ≡ t
      → Ok u ≡ settled_of w m c x u
  unfolding settled_of
  settled_same l e = sym (rw (e, l, same_refl m.label))

  module _ (x u : Side) {root : Side} (er : root ≡ climbed (taken true true (entries_from w 0 (c - 0))) x) {b : Bool}
      (e : b ≡ same root.label m.label) where
    root_is : root ≡ climbed (entries_from w 0 c) x
    root_is =
        let z : c - 0 ≡ c = omega arith in
        er ∙ rw (z, taken_all (entries_from w 0 c))

    pub settled-fine : b ≡ true → Ok u ≡ settled_of w m c x u
    unfolding settled_of
    settled-fine t = sym (rw (← root_is, sym e ∙ t))

    pub settled_not : b ≡ false → Err Mislabelled ≡ settled_of w m c x u
    unfolding settled_of
    settled_not t = sym (rw (← root_is, sym e ∙ t))

-- the two ways to the side below the first c entries and the one below the first f
module _ (w : List ℕ) (m : Metadata) (f c : ℕ) {k at : ℕ} (ek : k ≡ count_of w) (ea : at ≡ min f k) (low : at ≤ k) {leaf x u : Side}
    (el : leaf ≡ stop_leaf w k) where
  settled_is : c ≤ k → x ≡ climbed (entries_from w c (k - c)) (stop_leaf w k)
      → u ≡ climbed (entries_from w at (k - at)) (stop_leaf w k) → settled_of w m c x u ≡ recomputed_of w m f
  unfolding settled_of recomputed_of below_of
  settled_is l ex eu =
      let z : c - 0 ≡ c = omega arith in
      let y : k - 0 ≡ k = omega arith in
      let r : climbed (entries_from w 0 c) x ≡ climbed (entries_from w 0 (count_of w)) (stop_leaf w (count_of w)) =
      ap₂ (λ n s. climbed (entries_from w 0 n) s) (sym z) ex
      ∙ climb_join w 0 c k (stop_leaf w k) (omega arith) l
      ∙ ap (λ n. climbed (entries_from w 0 n) (stop_leaf w k)) y
      ∙ ap (λ n. climbed (entries_from w 0 n) (stop_leaf w n)) ek in
      rw (r, eu, ea, ek)

  pub c_first : c ≤ at → u ≡ climbed (taken true true (entries_from w at (k - at))) leaf
      → x ≡ climbed (taken true true (entries_from w c (at - c))) u → settled_of w m c x u ≡ recomputed_of w m f
  c_first l eu ex =
      let d : u ≡ climbed (entries_from w at (k - at)) (stop_leaf w k) = eu ∙ rw (taken_all (entries_from w at (k - at)), el) in
      settled_is (omega arith)
      (ex ∙ rw (taken_all (entries_from w c (at - c)), d) (climb_join w c at k (stop_leaf w k) l low)) d

  pub f_first : at ≤ c → c ≤ k → x ≡ climbed (taken true true (entries_from w c (k - c))) leaf
      → u ≡ climbed (taken true true (entries_from w at (c - at))) x → settled_of w m c x u ≡ recomputed_of w m f
  f_first l n ex eu =
      let d : x ≡ climbed (entries_from w c (k - c)) (stop_leaf w k) = ex ∙ rw (taken_all (entries_from w c (k - c)), el) in
      settled_is n d
      (eu ∙ rw (taken_all (entries_from w at (c - at)), d) (climb_join w at c k (stop_leaf w k) l n))
