-- Bytes of the stated form are read; others are refused.
-- Assumes nothing.
use native.Mathlib.Omega.{arith}
use mathlib.Core.Path.{sym, ◌∙◌}
use Rattle.gateway.specs.Saving.{load_of}
use Rattle.gateway.proofs.SavedLaws.{stated_is}
use Rattle.gateway.proofs.saved.load.Goals as goal

pub number_at-count-requires : goal.number_at-count-requires
number_at-count-requires c =
    let z = stated_is c.args.s.now (sym c.as_stated.ensures ∙ c.if-as_stated.true) in
    omega (arith, z.size)

pub bytes_at-label-requires : goal.bytes_at-label-requires
bytes_at-label-requires c =
    let z = stated_is c.args.s.now (sym c.as_stated.ensures ∙ c.if-as_stated.true) in
    omega (arith, z.size)

pub returns-then-as_stated : goal.returns-then-as_stated
unfolding load_of
returns-then-as_stated c =
    let e = sym c.as_stated.ensures ∙ c.if-as_stated.true in
    record { verdict = rw e; metadata = rw (e, c.number_at-count.ensures.0, c.bytes_at-label.ensures) }

pub returns-else-as_stated : goal.returns-else-as_stated
unfolding load_of
returns-else-as_stated c =
    let e = sym c.as_stated.ensures ∙ c.if-as_stated.false in
    record { verdict = rw e; metadata = rw e }
