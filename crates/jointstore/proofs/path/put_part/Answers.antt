-- `jointstore::path::put_part` meets its contract: entries and stop side by side.
-- Assumes nothing.
use native.Mathlib.Omega.{arith}
use mathlib.Core.Path.{◌≡◌, refl, ap, ◌∙◌}
use lib.ListN.{length}
use Rattle.labels.specs.declared.Side.{Side}
use Rattle.labels.specs.CodeSides.{no_side}
use Rattle.std.proofs.lemmas.List.{get_or_default}
use Rattle.store.proofs.SlotLaws.{slots-sized}
use Rattle.store.proofs.TurnLaws.{shown_sized}
use Rattle.jointstore.proofs.PartLaws.{part_put}
use borrow.Author.Rules.{rules}
use Rattle.jointstore.proofs.path.put_part.Goals as goal

pub put_entries-requires : goal.put_entries-requires
put_entries-requires c =
    let e = c.columns-s.ensures in (
      omega (arith, c.requires.1, c.requires.2),
      omega (arith, c.requires.5),
      rw e c.requires.4,
      rw e (slots-sized _),
      c.requires.0,
      c.requires.3,
    )

pub put_stop-requires : goal.put_stop-requires
put_stop-requires c =
    let size : length c.columns-s.result ≡ 16 = search rules in
    let l : length c.put_entries.new.buffer ≡ length c.args.buffer.now = search rules in (
      omega (arith, l, c.requires.5),
      ap length c.tag.ensures
          ∙ shown_sized c.args.image.bytes.now c.args.q (omega
          (arith, c.args.image.room, c.requires.1, c.requires.2)),
      ap (λ (x : Side). length x.label) (get_or_default c.columns-s.result 0 _ no_side (omega (arith, size)))
          ∙ rw c.columns-s.ensures (slots-sized _ 0),
    )

pub returns : goal.returns
returns c = (
  part_put c.args.image.bytes.now c.args.buffer.now c.put_entries.new.buffer c.put_stop.new.buffer
      c.args.at c.args.a c.args.q c.args.e c.args.k c.own.result c.tag.result
      c.columns-s.result _ (c.own.ensures c.args.image.bytes.now) c.tag.ensures c.columns-s.ensures
      c.put_entries.ensures.1 c.requires.5 c.put_entries.ensures.0 c.put_stop.ensures,
  refl,
)
