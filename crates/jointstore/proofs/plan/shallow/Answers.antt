-- `jointstore::plan::shallow` meets its contract: the positions from here on decide.
-- Assumes nothing.
use mathlib.Core.Path.{sym, ◌∙◌}
use Rattle.store.proofs.ProofLaws.{counted}
use Rattle.jointstore.proofs.PositionLaws.{within_next, shallow_stop, shallow_on, shallow_end}
use Rattle.jointstore.proofs.plan.shallow.Goals as goal

pub entries-requires : goal.entries-requires
entries-requires c =
    let w = within_next c.args.ps.now _ c.loop-p.p-index c.loop-p-test.true c.loop-p.invariant.0 in
    w.0

pub returns-then-entries : goal.returns-then-entries
returns-then-entries c =
    let i = c.loop-p.p-index in
    let w = within_next c.args.ps.now _ i c.loop-p-test.true c.loop-p.invariant.0 in
    shallow_stop c.args.image.bytes.now c.args.ps.now i c.entries.result
    (c.entries.ensures.0 ∙ sym (counted c.args.image.bytes.now c.args.image.good _ w.0)) c.loop-p-test.true
    c.if-entries.true
    ∙ c.loop-p.invariant.1

pub loop-p-preserved : goal.loop-p-preserved
loop-p-preserved c =
    let i = c.loop-p.p-index in
    let w = within_next c.args.ps.now _ i c.loop-p-test.true c.loop-p.invariant.0 in (
      w.1,
      shallow_on c.args.image.bytes.now c.args.ps.now i c.entries.result
          (c.entries.ensures.0 ∙ sym (counted c.args.image.bytes.now c.args.image.good _ w.0))
          c.loop-p-test.true c.if-entries.false
          ∙ c.loop-p.invariant.1,
    )

pub returns : goal.returns
returns c =
    shallow_end c.args.image.bytes.now c.args.ps.now c.loop-p.p-index c.loop-p-test.false ∙ c.loop-p.invariant.1
