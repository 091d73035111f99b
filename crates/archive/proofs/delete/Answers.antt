-- `archive::delete` meets its contract.
-- Assumes nothing.
use native.Mathlib.Omega.{arith}
use mathlib.Core.Path.{◌≡◌, ap, ◌∙◌}
use Rattle.archive.specs.Reading.{count_of}
use Rattle.archive.specs.declared.Layout.{Layout}
use Rattle.archive.proofs.SoundLaws.{sound_is}
use Rattle.archive.proofs.EditLaws.{delete_is}
use borrow.Author.Rules.{rules}
use Rattle.archive.proofs.delete.Goals as goal

pub returns : goal.returns
returns c =
    let e : c.args.x.count ≡ count_of c.args.b.now = ap (λ (x : Layout). x.count) c.requires.1 in
    delete_is c.args.b.now (sound_is _ c.requires.0) c.args.p c.slide.new.b c.clear.new.d
    c.put_count.new.b
    (search rules) (omega (arith, e)) (c.slide.ensures ∙ rw (c.place-from.ensures, c.place-end.ensures, e))
    (c.clear.ensures ∙ rw (c.place-end.ensures, e)) (c.put_count.ensures ∙ rw e)
