-- The store's theorem on rows within the limits, the gateway's on honest proofs and on any, and the block that follows itself.
-- Assumes nothing.
use Prim.Native.Nat.{ℕ, zero, suc, ◌+◌, ◌≤◌, ◌<◌}
use native.Mathlib.Omega.{arith}
use mathlib.Core.Path.{◌≡◌, refl, sym}
use mathlib.Core.List.{List, [], ◌∷◌, ◌++◌}
use lib.ListN.{length, take, drop}
use Rattle.skiplist.specs.Limits.{most_blocks}
use Rattle.skiplist.specs.Blocks.{Block, tag_after}
use Rattle.skiplist.specs.Commands.{InRange, edited}
use Rattle.commands.specs.declared.Operation.TheVariants.{Insert}
use Rattle.commands.specs.declared.Command.{Command}
use Rattle.commands.specs.Meaning.{meaning}
use Rattle.commands.specs.Again.{Again}
use Rattle.store.proofs.ApplyLaws.{edited-length}
use Rattle.store.proofs.Theorems.{apply-again}
use Rattle.gateway.proofs.Repeats.{repeats_stand, accepted_anew, honest_repeats}
use Rattle.demands.specs.ThirdDemand.{held}
use Rattle.demands.specs.SentTwice.{once_more, honest, SentTwice}

-- the tag right after the first p blocks
after_front : (p : ℕ) (bs : List Block) (b : Block) (cs : List Block) → p ≤ length bs
    → tag_after p (take p bs ++ b ∷ cs) ≡ b.tag
after_front zero bs b cs h = refl
after_front (suc p) [] b cs h = absurd (omega (arith, h))
after_front (suc p) (x ∷ bs) b cs h = after_front p bs b cs (omega (arith, h))

filed_once_more : (bs : List Block) (k : Command) → k.operation ≡ Insert → InRange (meaning k) (length bs)
    → length bs + 1 < most_blocks → Again (edited (meaning k) bs) (once_more k)
filed_once_more bs k e range space =
    let r : InRange (meaning (record { operation = Insert; position = k.position; height = k.height; tag = k.tag }))
    (length bs) = rw e at range in
    let n = edited-length Insert k.position k.height k.tag bs (omega arith) r.0 in
    let q : k.position + 1 ≡ suc k.position = omega arith in
    rw e
    (record {
      insert = refl;
      place = (omega arith, omega (arith, n, r.0));
      tag = rw q (sym (after_front k.position bs (record { height = k.height; tag = k.tag })
          (drop k.position bs) r.0));
      low = r.1;
      space = omega (arith, n, space);
    })

pub sent_twice : SentTwice
sent_twice = record {
  store = λ bs spare k l. apply-again bs l spare k;
  gateway = λ bs k other l few. honest_repeats (held bs) k (honest bs k) other bs l refl refl few;
  agree = λ bs spare k other l few.
      let s = apply-again bs l spare k in
      let g = honest_repeats (held bs) k (honest bs k) other bs l refl refl few in
      (λ x. s.1 (g.0 x), λ x. g.1 (s.0 x));
  refused = λ bs k first second l refused. repeats_stand (held bs) k first second bs l refl refused;
  accepted = λ bs k first second l done. accepted_anew (held bs) k first second bs l refl done;
  filed_once_more = filed_once_more;
}
