-- `archive::insert` meets its contract.
-- Assumes nothing.
use native.Mathlib.Omega.{arith}
use mathlib.Core.Path.{◌≡◌, ap, ◌∙◌}
use lib.ListN.{length}
use Rattle.archive.specs.Reading.{count_of}
use Rattle.archive.specs.declared.Layout.{Layout}
use Rattle.archive.proofs.SoundLaws.{sound_is}
use Rattle.archive.proofs.EditLaws.{insert_is}
use borrow.Author.Rules.{rules}
use Rattle.archive.proofs.insert.Goals as goal

pub returns : goal.returns
returns c =
    let e : c.args.x.count ≡ count_of c.args.b.now = ap (λ (x : Layout). x.count) c.requires.1 in
    let n : length c.args.tag ≡ 32 = search rules in
    insert_is c.args.b.now (sound_is _ c.requires.0) c.args.p c.args.height c.args.tag
    c.slide.new.b c.copy.new.d
    c.put_number.new.d c.put_count.new.b (omega (arith, e)) (omega (arith, e)) (search rules) n
    (c.slide.ensures ∙ rw (c.place-at.ensures, c.place.ensures, e)) (c.copy.ensures ∙ rw c.place-at.ensures)
    (c.put_number.ensures ∙ rw c.place-at.ensures) (c.put_count.ensures ∙ rw e)
