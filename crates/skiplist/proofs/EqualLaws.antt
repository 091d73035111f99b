-- The test of two entries passes exactly where they are equal.
use mathlib.Core.Path.{◌≡◌, refl, ap, ap₂, subst}
use mathlib.Core.Bool.{true, and-eq-true_iff}
use lib.Dec.{eqb}
use borrow.Author.Tests.{eq-eqb, eqb-true}
use Rattle.skiplist.specs.Entry.{Entry, down, right, pass}
use Rattle.skiplist.specs.Equal.{is, item-discrete, same}
use Rattle.skiplist.proofs.Cases.{is_yes, is-true, never}

module _ {S : Type 0} (eq : Discrete S) where
  same_self : (e : Entry S) → same eq e e ≡ true
  same_self (down l s) = rw (eq-eqb l l refl, is_yes (eq s s) refl)
  same_self (right l s) = rw (eq-eqb l l refl, is_yes (eq s s) refl)
  same_self (pass c) = is_yes (item-discrete c c) refl

  pub same_equal : (e d : Entry S) → e ≡ d → same eq e d ≡ true
  same_equal e d i = subst (λ x. same eq e x ≡ true) i (same_self e)

  pub same-true : (e d : Entry S) → same eq e d ≡ true → e ≡ d
  same-true (down l s) (down k t) h =
      let b = (and-eq-true_iff (eqb l k) (is (eq s t))).0 h in ap₂ down (eqb-true l k b.0) (is-true (eq s t) b.1)
  same-true (down l s) (right k t) h = never cc
  same-true (down l s) (pass d) h = never cc
  same-true (right l s) (down k t) h = never cc
  same-true (right l s) (right k t) h =
      let b = (and-eq-true_iff (eqb l k) (is (eq s t))).0 h in ap₂ right (eqb-true l k b.0) (is-true (eq s t) b.1)
  same-true (right l s) (pass d) h = never cc
  same-true (pass c) (down k t) h = never cc
  same-true (pass c) (right k t) h = never cc
  same-true (pass c) (pass d) h = ap pass (is-true (item-discrete c d) h)
