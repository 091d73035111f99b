-- `store::edit` meets its contract: each operation's edit of records is the command's edit of the row.
-- Assumes nothing.
use native.Mathlib.Omega.{arith}
use mathlib.Core.Path.{ap, ◌∙◌}
use Rattle.archive.specs.declared.Layout.{Layout}
use Rattle.archive.proofs.SoundLaws.{sound_is}
use Rattle.archive.proofs.EditLaws.{read_is}
use Rattle.store.proofs.ApplyLaws.{editable, insert_ready}
use Rattle.store.proofs.edit.Goals as goal

pub returns-in-Read : goal.returns-in-Read
returns-in-Read c =
    read_is _ (sound_is _ c.requires.0.good) (λ i. omega (arith, c.type_inv.image i))
    c.args.k.position
    ∙ rw c.in-Read.is

pub replace-requires : goal.replace-requires
replace-requires c =
    let a = (editable _ _ c.requires.1).admitted in (
      c.requires.0.good,
      c.requires.0.header,
      rw c.in-Replace.is at a.least,
      omega
          (arith, a.within, ap (λ (y : Layout). y.count) c.requires.0.header),
    )

pub insert-requires : goal.insert-requires
insert-requires c =
    let q = editable _ _ c.requires.1 in
    let r = insert_ready _ _ q c.in-Insert.is in
    let e = ap (λ (y : Layout). y.count) c.requires.0.header in (
      c.requires.0.good,
      c.requires.0.header,
      omega (arith, q.admitted.within, e),
      omega (arith, r.0, e),
      omega
          (arith, r.1, e),
    )

pub delete-requires : goal.delete-requires
delete-requires c =
    let a = (editable _ _ c.requires.1).admitted in (
      c.requires.0.good,
      c.requires.0.header,
      rw c.in-Delete.is at a.least,
      omega
          (arith, a.within, ap (λ (y : Layout). y.count) c.requires.0.header),
    )
