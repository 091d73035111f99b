-- `jointstore::prove` meets its pledge.
-- Assumes nothing.
use native.Mathlib.Omega.{arith}
use mathlib.Core.Path.{sym, ap, ◌∙◌}
use Rattle.store.specs.declared.Proved.{Proved}
use Rattle.jointstore.proofs.AnswerLaws.{planned, prove_done, prove_refused}
use Rattle.jointstore.proofs.prove.Goals as goal

pub known-requires : goal.known-requires
known-requires c =
    (planned _ _ _ _ c.joint-t.result c.joint-t.ensures (sym c.is_ok.ensures.value ∙ c.if-is_ok.true)).good

pub put_joint-requires : goal.put_joint-requires
put_joint-requires c =
    let q = planned _ _ _ _ c.joint-t.result c.joint-t.ensures (sym c.is_ok.ensures.value ∙ c.if-is_ok.true) in
    let es = ap (λ (r : Proved). r.length) c.joint-t.ensures ∙ q.size in
    rw c.known.ensures (q.set, q.inside, q.shallow, es, omega (arith, es, q.fits))

pub returns-then-is_ok : goal.returns-then-is_ok
returns-then-is_ok c =
    prove_done _ _ _ _ c.joint-t.result c.joint-t.ensures (sym c.is_ok.ensures.value ∙ c.if-is_ok.true) _
    (rw c.known.ensures at c.put_joint.ensures)

pub returns-else-is_ok : goal.returns-else-is_ok
returns-else-is_ok c =
    prove_refused _ _ _ _ c.joint-t.result c.joint-t.ensures (sym c.is_ok.ensures.value ∙ c.if-is_ok.false)
