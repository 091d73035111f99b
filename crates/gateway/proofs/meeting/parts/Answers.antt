-- The parting after j shared entries.
-- Assumes nothing.
use mathlib.Core.Path.{◌≡◌}
use native.Mathlib.Omega.{arith}
use borrow.Author.Tests.{lt-ltb, le-ltb}
use Rattle.gateway.specs.Parting.{parts_of}
use Rattle.gateway.proofs.meeting.parts.Goals as goal

pub returns-then-l-j : goal.returns-then-l-j
unfolding parts_of
returns-then-l-j c = rw (le-ltb _ _ c.if-l-j.true)

pub returns-then-j-k : goal.returns-then-j-k
unfolding parts_of
returns-then-j-k c =
    rw (
      lt-ltb _ _ c.if-l-j.false,
      lt-ltb _ _ c.if-j-k.true,
      ← c.entry_at.ensures.0,
      ← c.entry_at-then-j-k.ensures.0,
    ) c.fork.ensures

pub returns : goal.returns
unfolding parts_of
returns c =
    let same : c.args.k ≡ c.args.j = omega (arith, c.requires.2) in
    rw (
      lt-ltb _ _ c.if-l-j.false,
      le-ltb _ _ c.if-j-k.false,
      ← c.beside_at.ensures.0,
      same,
      ← c.entry_at-2.ensures.0,
      ← c.entry_at-3.ensures.0,
    ) c.halt.ensures
