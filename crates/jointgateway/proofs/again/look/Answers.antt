-- `jointgateway::again::look` meets its contract.
-- Assumes nothing.
use Prim.Native.Nat.{ℕ, ◌≤◌}
use mathlib.Core.Path.{◌≡◌, refl}
use Prim.Native.Nat.{zero, suc}
use mathlib.Core.List.{List}
use Rattle.labels.specs.declared.Side.{Side}
use Rattle.commands.specs.declared.Metadata.{Metadata}
use Rattle.proofbytes.specs.Reading.{count_of, entries_from}
use Rattle.gateway.specs.Climbing.{climbed}
use Rattle.jointgateway.specs.Working.{KeptIn}
use Rattle.jointgateway.proofs.again.look.Goals as goal

pub again-requires : goal.again-requires
again-requires c =
    let k = later c.args.w.now c.args.m c.args.c c.args.t c.args.i c.if-i-eq0.false c.requires.1 in
    (c.requires.0, k.0, k.1)
  where
    later : (w : List ℕ) (m : Metadata) (n : ℕ) (t : Side) (i : ℕ) → (i ≡ 0 → ⊥) → KeptIn w m i n t
        → (n ≤ count_of w) × ((climbed (entries_from w 0 n) t).label ≡ m.label)
    later w m n t zero x k = absurd (x refl)
    later w m n t (suc i) x k = k
