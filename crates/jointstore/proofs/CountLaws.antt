-- Counting shared entries by heights: what the two counts make together.
-- Assumes nothing.
use Prim.Native.Nat.{ℕ, ◌+◌, ◌-◌, ◌≤◌, ◌<◌}
use native.Mathlib.Omega.{arith}
use mathlib.Core.Path.{◌≡◌, sym, ap, ◌∙◌}
use mathlib.Core.List.{List, ◌++◌}
use lib.ListN.{length}
use Rattle.skiplist.specs.Length.{tallest, down_columns}
use Rattle.archive.specs.Reading.{count_of}
use Rattle.store.specs.declared.plan.Mark.{Mark}
use Rattle.store.specs.Passes.{run_of, mark_of, onto}
use Rattle.store.proofs.PlanLaws.{onto_marks, onto-mark}
use Rattle.jointstore.specs.Passes.{shared_at}
use Rattle.jointstore.proofs.SharingLaws.{shared_is}

abbrev no_mark : Mark
no_mark = record { level = 0; count = 0 }

pub between_is : (b : List ℕ) (p q : ℕ) (m : Mark) → m ≡ onto no_mark (run_of b p q) → m.level ≡ tallest (run_of b p q)
between_is b p q m e =
    let B = run_of b p q in
    ap (λ (y : Mark). y.level) (e ∙ onto-mark B)

pub shares : (b : List ℕ) (p q n : ℕ) (m t : Mark) (a r : ℕ) → p < q → q ≤ n → n ≡ count_of b
    → m ≡ onto no_mark (run_of b p q) → t ≡ onto m (run_of b 0 p) → a ≡ length (down_columns m.level (run_of b q n))
    → r ≡ t.count - m.count + a → r ≡ shared_at b p q
shares b p q n m t a r rising in_row en em et ea er =
    let A = run_of b 0 p in
    let B = run_of b p q in
    let mb : m ≡ mark_of B = em ∙ onto-mark B in
    let tb : t ≡ mark_of (A ++ B) = et ∙ ap (λ (x : Mark). onto x A) mb ∙ onto_marks A B in
    er
    ∙ rw (ea, tb, mb, en)
    (sym (shared_is b p q rising (omega (arith, en))))
