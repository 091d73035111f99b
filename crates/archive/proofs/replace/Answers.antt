-- `archive::replace` meets its contract.
-- Assumes nothing.
use native.Mathlib.Omega.{arith}
use mathlib.Core.Path.{ap, ◌∙◌}
use Rattle.octets.specs.Numbers.{Bytes}
use Rattle.archive.specs.declared.Layout.{Layout}
use Rattle.archive.proofs.SoundLaws.{sound_is}
use Rattle.archive.proofs.EditLaws.{replace_is}
use borrow.Author.Rules.{rules}
use Rattle.archive.proofs.replace.Goals as goal

pub returns : goal.returns
returns c =
    let e = ap (λ (x : Layout). x.count) c.requires.1 in
    let y : Bytes c.args.b.now = λ i. omega (arith, c.slice_known-1.given i) in
    replace_is c.args.b.now (sound_is _ c.requires.0) y c.args.p c.args.tag c.copy.new.d (search rules) (omega (arith, e))
    (search rules) (c.copy.ensures ∙ rw c.place.ensures)
