-- Each operation by its own function.
-- Assumes nothing.
use native.Mathlib.Omega.{arith}
use mathlib.Core.Path.{ap, ◌∙◌}
use Rattle.commands.specs.Admission.{least_of}
use Rattle.gateway.proofs.Answers.{opening_count, opening_least, worked-read, worked-replace, worked-insert}
use Rattle.gateway.proofs.Answers.{worked-delete}
use Rattle.gateway.proofs.work.Goals as goal

pub read-requires : goal.read-requires
read-requires c =
    opening_count c.args.m c.args.k c.requires

pub replace-requires : goal.replace-requires
replace-requires c =
    opening_count c.args.m c.args.k c.requires

pub insert-requires : goal.insert-requires
insert-requires c =
    opening_count c.args.m c.args.k c.requires

pub delete-requires : goal.delete-requires
delete-requires c = (
  opening_count c.args.m c.args.k c.requires,
  omega
      (arith, opening_least c.args.m c.args.k c.requires, ap least_of c.in-Delete.is),
)

pub returns-in-Read : goal.returns-in-Read
returns-in-Read c =
    c.read.ensures ∙ worked-read c.args.m c.args.k c.args.first.now c.args.second.now
    c.in-Read.is

pub returns-in-Replace : goal.returns-in-Replace
returns-in-Replace c =
    c.replace.ensures ∙ worked-replace c.args.m c.args.k c.args.first.now c.args.second.now
    c.in-Replace.is

pub returns-in-Insert : goal.returns-in-Insert
returns-in-Insert c =
    c.insert.ensures ∙ worked-insert c.args.m c.args.k c.args.first.now c.args.second.now
    c.in-Insert.is

pub returns-in-Delete : goal.returns-in-Delete
returns-in-Delete c =
    c.delete.ensures ∙ worked-delete c.args.m c.args.k c.args.first.now c.args.second.now
    c.in-Delete.is
