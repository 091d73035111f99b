-- `jointstore::plan::shared` meets its contract: the two counts by heights are the shared number.
-- Assumes nothing.
use native.Mathlib.Omega.{arith}
use mathlib.Core.Path.{refl}
use Rattle.archive.specs.Reading.{count_of}
use Rattle.jointstore.proofs.SharingLaws.{shared_few}
use Rattle.jointstore.proofs.CountLaws.{shares}
use Rattle.jointstore.proofs.plan.shared.Goals as goal

pub returns : goal.returns
returns c =
    let e =
    shares c.args.image.bytes.now c.args.p c.args.q (count_of c.args.image.bytes.now) c.passing-between.result c.passing-all.result
    c.above.result _ c.requires.0 c.requires.1 refl
    c.passing-between.ensures.0 c.passing-all.ensures.0 c.above.ensures.0 refl in
    (e, omega (arith, e, shared_few c.args.image.bytes.now c.args.p c.args.q))
