-- Delete: the parting by bytes, the first proof, the second, whether they meet, and what is left.
-- Assumes nothing.
use Rattle.std.specs.Prelude.{Err}
use Rattle.std.proofs.Common.{rules}
use Prim.Native.Nat.{◌+◌, ◌-◌}
use native.Mathlib.Omega.{arith}
use mathlib.Core.Path.{refl, ap, ◌∙◌}
use Rattle.std.proofs.lemmas.Result.{err_from_is_err_and}
use Rattle.refusals.specs.declared.Which.TheVariants.{Second}
use Rattle.proofbytes.proofs.FormLaws.{form_sized}
use Rattle.proofbytes.proofs.WrittenBack.{formed_writable}
use Rattle.gateway.specs.Working.{answer_with}
use Rattle.gateway.proofs.Screens.{fine-passed}
use Rattle.gateway.proofs.Answers.{blamed-err, handed-side, examined-fault, examined-finding, examined-kept}
use Rattle.gateway.proofs.Answers.{delete_refused, delete_done, second-refused, second-done, join_refused, join_done}
use Rattle.gateway.proofs.delete.Goals as goal

pub returns-in_err-u : goal.returns-in_err-u
returns-in_err-u c =
    let a = c.args in
    let p = err_from_is_err_and c.from_residual.result c.from_residual.ensures.1 in
    let f = blamed-err _ c.map_err.ensures.cases c.in_err-u.was in
    ap (answer_with a.m) (p.1 ∙ ap Err p.2)
    ∙ delete_refused a.m a.p a.a.now a.b.now
    (examined-fault a.a.now (a.p - 1) a.m (c.shared-j.result + 1) c.examine.ensures f.1) (search (f.2, rules))

pub returns-in_err-blame : goal.returns-in_err-blame
returns-in_err-blame c =
    let a = c.args in
    let j = c.shared-j.result + 1 in
    let p = err_from_is_err_and c.from_residual-in_err-blame.result c.from_residual-in_err-blame.ensures.1 in
    let found = examined-finding a.b.now a.p a.m j c.examine-y.ensures in
    let kept = c.and-f.ensures in
    let told = c.blame.ensures in
    let was = c.in_err-blame.was in
    let x = handed-side a.a.now (a.p - 1) a.m j c.examine.ensures _ c.map_err.ensures.cases c.in_ok-u.was in
    ap (answer_with a.m) (p.1 ∙ ap Err p.2)
    ∙ second-refused a.m a.p a.a.now a.b.now (cc)
    ∙ delete_done a.m a.p a.a.now a.b.now x.0

pub meet-requires : goal.meet-requires
meet-requires c =
    let a = c.args in
    let j = c.shared-j.result + 1 in
    let x = handed-side a.a.now (a.p - 1) a.m j c.examine.ensures _ c.map_err.ensures.cases c.in_ok-u.was in
    let v = c.unwrap_or-v.ensures in
    let y = examined-kept a.b.now a.p a.m j c.examine-y.ensures Second c.and-f.ensures c.blame.ensures c.in_ok-blame.was _ v in
    let s = form_sized a.a.now (fine-passed a.a.now (a.p - 1) a.m x.0).formed in
    let t = form_sized a.b.now (fine-passed a.b.now a.p a.m y.0).formed in
    (omega (arith, s.long), omega (arith, t.long), c.shared-j.ensures.1)

pub returns-then-not-meet : goal.returns-then-not-meet
returns-then-not-meet c =
    let a = c.args in
    let j = c.shared-j.result + 1 in
    let x = handed-side a.a.now (a.p - 1) a.m j c.examine.ensures _ c.map_err.ensures.cases c.in_ok-u.was in
    let v = c.unwrap_or-v.ensures in
    let y = examined-kept a.b.now a.p a.m j c.examine-y.ensures Second c.and-f.ensures c.blame.ensures c.in_ok-blame.was _ v in
    join_refused a.m c.requires.0 a.a.now a.b.now
    (λ i. omega (arith, c.type_inv.a i)) (λ i. omega (arith, c.type_inv.b i))
    (fine-passed a.a.now (a.p - 1) a.m x.0) (fine-passed a.b.now a.p a.m y.0)
    c.shared-j.ensures.0 refl refl x.1 y.1 c.meet.ensures c.if-not-meet.true
    ∙ second-done a.m a.p a.a.now a.b.now y.0
    ∙ delete_done a.m a.p a.a.now a.b.now x.0

pub remain-rest-requires : goal.remain-rest-requires
remain-rest-requires c =
    let a = c.args in
    let j = c.shared-j.result + 1 in
    let x = handed-side a.a.now (a.p - 1) a.m j c.examine.ensures _ c.map_err.ensures.cases c.in_ok-u.was in
    let v = c.unwrap_or-v.ensures in
    let y = examined-kept a.b.now a.p a.m j c.examine-y.ensures Second c.and-f.ensures c.blame.ensures c.in_ok-blame.was _ v in
    let s = fine-passed a.a.now (a.p - 1) a.m x.0 in
    let t = fine-passed a.b.now a.p a.m y.0 in
    let sized = form_sized a.a.now s.formed in
    let other = form_sized a.b.now t.formed in (
      omega (arith, sized.long),
      omega (arith, other.long),
      c.shared-j.ensures.1,
      (formed_writable a.a.now s.formed).levels,
      (formed_writable a.b.now t.formed).levels,
    )

pub shown-requires : goal.shown-requires
shown-requires c =
    let a = c.args in
    let j = c.shared-j.result + 1 in
    let v = c.unwrap_or-v.ensures in
    let y = examined-kept a.b.now a.p a.m j c.examine-y.ensures Second c.and-f.ensures c.blame.ensures c.in_ok-blame.was _ v in
    form_sized a.b.now (fine-passed a.b.now a.p a.m y.0).formed

pub returns : goal.returns
returns c =
    let a = c.args in
    let j = c.shared-j.result + 1 in
    let x = handed-side a.a.now (a.p - 1) a.m j c.examine.ensures _ c.map_err.ensures.cases c.in_ok-u.was in
    let v = c.unwrap_or-v.ensures in
    let y = examined-kept a.b.now a.p a.m j c.examine-y.ensures Second c.and-f.ensures c.blame.ensures c.in_ok-blame.was _ v in
    join_done a.m c.requires.0 a.a.now a.b.now
    (λ i. omega (arith, c.type_inv.a i)) (λ i. omega (arith, c.type_inv.b i))
    (fine-passed a.a.now (a.p - 1) a.m x.0) (fine-passed a.b.now a.p a.m y.0)
    c.shared-j.ensures.0 refl refl x.1 y.1 c.meet.ensures c.if-not-meet.false
    c.shown.ensures c.remain-rest.ensures c.metadata_of.ensures
    ∙ second-done a.m a.p a.a.now a.b.now y.0
    ∙ delete_done a.m a.p a.a.now a.b.now x.0
