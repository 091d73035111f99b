-- Insert's answer: the tag at the stop, and the metadata predicted.
-- Assumes nothing.
use native.Mathlib.Omega.{arith}
use mathlib.Core.Path.{refl, ap₂, ◌∙◌}
use Rattle.proofbytes.proofs.FormLaws.{form_sized}
use Rattle.gateway.specs.Gateway.{accepted_of}
use Rattle.gateway.proofs.Answers.{insert_of}
use Rattle.gateway.proofs.inserted.Goals as goal

pub insert-x-requires : goal.insert-x-requires
insert-x-requires c =
    let s = form_sized c.args.s.now c.requires.0 in
    omega (arith, s.long)

pub shown-requires : goal.shown-requires
shown-requires c = form_sized c.args.s.now c.requires.0

pub returns : goal.returns
returns c =
    let a = c.args in
    c.into.ensures ∙ ap₂ accepted_of c.shown.ensures
    (insert_of a.s.now c.requires.0 c.requires.1 a.height a.tag refl c.insert-x.ensures
    c.metadata_of.ensures)
