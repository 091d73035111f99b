-- How many entries Insert keeps.
-- Assumes nothing.
use Prim.Native.Nat.{◌-◌}
use mathlib.Core.Path.{◌∙◌}
use native.Mathlib.Omega.{arith}
use Rattle.gateway.proofs.Runs.{kept_more, kept_not, kept_none}
use Rattle.gateway.proofs.predict.kept.Goals as goal

pub returns-then-not-keeps : goal.returns-then-not-keeps
returns-then-not-keeps c =
    let a = c.args in (
      omega (
        arith,
        c.loop-j.invariant,
        kept_not a.s.now a.h c.loop-j.j a.k (omega arith) c.keeps.ensures
            (c.if-not-keeps.true),
      ),
      omega arith,
    )

pub loop-j-preserved : goal.loop-j-preserved
loop-j-preserved c =
    let a = c.args in
    kept_more a.s.now a.h c.loop-j.j a.k (omega arith) c.keeps.ensures (c.if-not-keeps.false) ∙ c.loop-j.invariant

pub returns : goal.returns
returns c =
    let a = c.args in (
      omega (arith, c.loop-j.invariant, kept_none a.s.now a.h c.loop-j.j (a.k - c.loop-j.j) (omega arith)),
      omega arith,
    )
