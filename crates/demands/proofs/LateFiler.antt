-- The filer's theorems, a whole outage by one filing after another, and what the filer does not look at.
-- Assumes nothing.
use Rattle.std.specs.Prelude.{Ok, Err}
use Prim.Native.Nat.{ℕ, ◌≤◌}
use native.Mathlib.Omega.{arith}
use mathlib.Core.Path.{◌≡◌, ap, ◌∙◌}
use mathlib.Core.Logic.{◌⊎◌, inl, inr}
use mathlib.Core.List.{List, [], ◌∷◌}
use lib.Dec.{ltb}
use lib.ListN.{length}
use borrow.Author.Tests.{le-ltb}
use Rattle.refusals.specs.declared.Refusal.{Refusal}
use Rattle.refusals.proofs.OrderLaws.{cases}
use Rattle.sha256.specs.Hash.{sha256}
use Rattle.sha256.proofs.Hashes.{sha256-length}
use Rattle.skiplist.specs.Messages.{tree_messages}
use Rattle.skiplist.specs.Clash.{Clash}
use Rattle.skiplist.specs.Blocks.{Block, WithinLimits, root, metadata_of}
use Rattle.commands.specs.declared.Metadata.{Metadata}
use Rattle.commands.specs.Meaning.{held_side}
use Rattle.store.proofs.Theorems.{edited-within}
use Rattle.gateway.proofs.Demands.{in_row, done_passing}
use Rattle.filer.specs.Filing.{Timed, Proposal, insertion, filed_of}
use Rattle.filer.specs.Archive.{needed, SharedTag}
use Rattle.filer.specs.Demand.{filing_messages, row_with, Filed}
use Rattle.filer.proofs.Kept.{accepted, times_kept}
use Rattle.filer.proofs.Found.{honest_shown, place_accepted}
use Rattle.demands.specs.LateFiler.{Archive, InOrder, Attempt, attempted, after_all, Exception, with_left, with_right, LateFiler}
use Rattle.demands.proofs.Laws.{refused-settled}

-- the row that a filing leaves is within the limits again
next : (m : Metadata) (q : Proposal) (first second : List ℕ) (bs : List Block) → WithinLimits bs
    → held_side m ≡ metadata_of sha256 bs → (filed_of m q first second).verdict ≡ Ok tt → WithinLimits (row_with q bs)
unfolding filed_of
next m q first second bs l held done =
    let passing = done_passing m (insertion q) first [] (accepted m q first second done).inserted in
    edited-within (insertion q) bs l (in_row m (insertion q) first [] passing bs held) (sha256-length _)

held_back : (m : Metadata) (q : Proposal) (first second : List ℕ) (why : Refusal) → (filed_of m q first second).verdict ≡ Err why
    → (filed_of m q first second).metadata ≡ m
unfolding filed_of
held_back m q first second why e = refused-settled _ why _ _ e

-- ONE ATTEMPT
step : (a : Attempt) (x : Archive) → InOrder x → Exception (a ∷ []) x ⊎ InOrder (attempted a x)
step a x o = go (cases (filed_of x.held a.proposal a.first a.second).verdict)
  where
    go : ((filed_of x.held a.proposal a.first a.second).verdict ≡ Ok tt)
        ⊎ ((why : Refusal) × ((filed_of x.held a.proposal a.first a.second).verdict ≡ Err why))
        → Exception (a ∷ []) x ⊎ InOrder (attempted a x)
    go (inr r) = inr (rw r.1 (record {
      limits = o.limits;
      metadata = ap held_side (held_back x.held a.proposal a.first a.second r.0 r.1) ∙ o.metadata;
      stand = o.stand;
      times = o.times;
    }))
    go (inl done) = filed (times_kept x.held a.proposal a.first a.second x.row x.blocks o.limits
        o.metadata o.stand o.times done)
      where
        filed : Clash sha256 (filing_messages x.held a.proposal a.first a.second) (tree_messages sha256 (root x.row))
            ⊎ (SharedTag (needed a.proposal (length x.row)) x.blocks
            ⊎ Filed x.held a.proposal a.first a.second x.row x.blocks)
            → Exception (a ∷ []) x ⊎ InOrder (attempted a x)
        filed (inl c) = inl (inl (inl c))
        filed (inr (inl s)) = inl (inl (inr s))
        filed (inr (inr f)) = inr (rw done (record {
          limits = next x.held a.proposal a.first a.second x.row o.limits o.metadata done;
          metadata = f.metadata;
          stand = f.stand;
          times = f.times;
        }))

-- ONE AFTER ANOTHER
outage : (later : List Attempt) (x : Archive) → InOrder x → Exception later x ⊎ InOrder (after_all later x)
outage [] x o = inr o
outage (a ∷ later) x o = go (step a x o) (outage later (attempted a x))
  where
    go : Exception (a ∷ []) x ⊎ InOrder (attempted a x)
        → (InOrder (attempted a x) → Exception later (attempted a x) ⊎ InOrder (after_all later (attempted a x)))
        → Exception (a ∷ later) x ⊎ InOrder (after_all later (attempted a x))
    go (inl (inl e)) rest = inl (inl e)
    go (inl (inr e)) rest = absurd e
    go (inr p) rest = shown (rest p)
      where
        shown : Exception later (attempted a x) ⊎ InOrder (after_all later (attempted a x))
            → Exception (a ∷ later) x ⊎ InOrder (after_all later (attempted a x))
        shown (inl e) = inl (inr e)
        shown (inr q) = inr q

first_place : (m : Metadata) (q : Proposal) (x : Timed) (first second : List ℕ) → q.position ≡ 0
    → filed_of m (with_left x q) first second ≡ filed_of m q first second
unfolding filed_of
first_place m q x first second e = let no : ltb 0 q.position ≡ _ = le-ltb 0 q.position (omega (arith, e)) in rw no

last_place : (m : Metadata) (q : Proposal) (x : Timed) (first second other : List ℕ) → m.count ≤ q.position
    → filed_of m (with_right x q) first other ≡ filed_of m q first second
unfolding filed_of
last_place m q x first second other h = rw (le-ltb q.position m.count h)

pub late_filer : LateFiler
late_filer = record {
  kept = times_kept;
  outage = outage;
  shown = honest_shown;
  found = place_accepted;
  first_place = first_place;
  last_place = last_place;
}
