-- `store::path::put_slots` meets its contract: the entries above level l and below level m are written.
-- Assumes nothing.
use Prim.Native.Nat.{◌+◌, ◌-◌, ◌*◌}
use mathlib.Core.Path.{◌≡◌}
use lib.ListN.{length}
use Rattle.octets.specs.Runs.{patch}
use Rattle.proofbytes.specs.Layout.{entry_size}
use Rattle.store.specs.Passes.{bytes_of, span_of}
use Rattle.store.proofs.path.put_slots.Given as goal

abbrev pub invariant-loop-m : goal.invariant-loop-m
invariant-loop-m l =
    (length l.buffer ≡ length l.initial.buffer) × (l.q + length (span_of l.s l.l (l.m - 1)) ≡ l.r)
    × (l.buffer ≡ patch l.initial.buffer (l.at + entry_size * l.q) (bytes_of (span_of l.s l.l (l.m - 1))))
