-- ASK 5, the late filer: "File late blocks by their time." No operator chooses a place: the store finds it from its own times and shows what
-- stands there, and the filer proves it right or refuses. What the filer accepts keeps the archive in time order, one block or a whole
-- outage of them in any order; what an honest store proposes is accepted; and what is not needed is not looked at.
-- Assumes nothing.
use Rattle.std.specs.Prelude.{ℕ, ◌≤◌, ◌≡◌, ◌⊎◌, List, [], ◌∷◌, length}
use Rattle.refusals.specs.Order.{settled}
use Rattle.sha256.specs.Hash.{sha256}
use Rattle.skiplist.specs.Messages.{tree_messages}
use Rattle.skiplist.specs.Clash.{Clash}
use Rattle.skiplist.specs.Blocks.{Block, WithinLimits, root, metadata_of}
use Rattle.commands.specs.declared.Metadata.{Metadata}
use Rattle.commands.specs.Meaning.{held_side}
use Rattle.times.specs.Times.{NeverFall}
use Rattle.filer.specs.Filing.{Timed, Proposal, filed_of}
use Rattle.filer.specs.Archive.{Stand, times_of, needed, SharedTag}
use Rattle.filer.specs.Demand.{filing_messages, row_with, blocks_with, TimesKept, HonestShown, PlaceAccepted}

-- A WHOLE OUTAGE: what the gateway holds, the row, and the blocks whose tags stand in it
pub record Archive : Type 0 where
  pub held : Metadata
  pub row : List Block
  pub blocks : List Timed

pub record InOrder (x : Archive) : Type 0 where
  pub limits : WithinLimits x.row
  pub metadata : held_side x.held ≡ metadata_of sha256 x.row
  pub stand : Stand x.blocks x.row
  pub times : NeverFall (times_of x.blocks)

-- a block that is to be filed, with what is shown for its place, by any hand
pub record Attempt : Type 0 where
  pub proposal : Proposal
  pub first : List ℕ
  pub second : List ℕ

-- the archive after it: with the block where it was accepted, else as it was
abbrev pub attempted : Attempt → Archive → Archive
attempted a x =
    let r = filed_of x.held a.proposal a.first a.second in
    record {
      held = r.metadata;
      row = settled r.verdict (row_with a.proposal x.row) x.row;
      blocks = settled r.verdict (blocks_with a.proposal x.blocks) x.blocks;
    }

abbrev pub after_all : List Attempt → Archive → Archive
after_all [] x = x
after_all (a ∷ later) x = after_all later (attempted a x)

-- at some attempt there is demand 3's clash, or a shared tag
abbrev pub Exception : List Attempt → Archive → Type 0
Exception [] x = ⊥
Exception (a ∷ later) x =
    (Clash sha256 (filing_messages x.held a.proposal a.first a.second) (tree_messages sha256 (root x.row))
    ⊎ SharedTag (needed a.proposal (length x.row)) x.blocks)
    ⊎ Exception later (attempted a x)

-- the same proposal with another block said to stand at p, or after it
abbrev pub with_left : Timed → Proposal → Proposal
with_left x q = record { position = q.position; height = q.height; new = q.new; left = x; right = q.right }

abbrev pub with_right : Timed → Proposal → Proposal
with_right x q = record { position = q.position; height = q.height; new = q.new; left = q.left; right = x }

pub record LateFiler : Type 0 where
  -- "If an archive's times never fall before, they never fall after an accepted filing, or an equal-digest pair exists as in demand 3, or
  -- a block sent and a different one in the archive share a tag."
  pub kept : TimesKept
  -- so too after any attempts, accepted and refused
  pub outage : (attempts : List Attempt) (x : Archive) → InOrder x → Exception attempts x ⊎ InOrder (after_all attempts x)
  -- there is a place that is accepted with honest neighbours and proofs, and the store finds it from its times
  pub shown : HonestShown
  pub found : PlaceAccepted
  -- "A missing neighbour, at p = 0 or p = n, is not required": nor is it looked at, nor its proof
  pub first_place : (m : Metadata) (q : Proposal) (x : Timed) (first second : List ℕ) → q.position ≡ 0
      → filed_of m (with_left x q) first second ≡ filed_of m q first second
  pub last_place : (m : Metadata) (q : Proposal) (x : Timed) (first second other : List ℕ) → m.count ≤ q.position
      → filed_of m (with_right x q) first other ≡ filed_of m q first second
