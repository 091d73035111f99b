-- `store::prove` meets its pledge.
-- Assumes nothing.
use native.Mathlib.Omega.{arith}
use mathlib.Core.Path.{sym, ap, ◌∙◌}
use Rattle.store.specs.declared.Proved.{Proved}
use Rattle.store.proofs.ProveLaws.{planned, prove_done, prove_refused}
use Rattle.store.proofs.prove.Goals as goal

pub known-requires : goal.known-requires
known-requires c =
    (planned _ _ _ _ c.proof-t.result c.proof-t.ensures (sym c.is_ok.ensures.value ∙ c.if-is_ok.true)).good

pub put_proof-requires : goal.put_proof-requires
put_proof-requires c =
    let q = planned _ _ _ _ c.proof-t.result c.proof-t.ensures (sym c.is_ok.ensures.value ∙ c.if-is_ok.true) in
    let ek = ap (λ (r : Proved). r.entries) c.proof-t.ensures ∙ q.entries in
    rw c.known.ensures (q.in_row, ek, omega (arith, ek, q.few), omega (arith, ek, q.fits))

pub returns-then-is_ok : goal.returns-then-is_ok
returns-then-is_ok c =
    prove_done _ _ _ _ c.proof-t.result _ c.proof-t.ensures (sym c.is_ok.ensures.value ∙ c.if-is_ok.true)
    (rw c.known.ensures at c.put_proof.ensures)

pub returns-else-is_ok : goal.returns-else-is_ok
returns-else-is_ok c =
    prove_refused _ _ _ _ c.proof-t.result c.proof-t.ensures (sym c.is_ok.ensures.value ∙ c.if-is_ok.false)
