-- What an archive within limits is, and what the gateway's check of one proof takes, over any rules on leaves, any
-- greatest level and any digest. Document 01's bounds on rank fields are not asked for: what is promised holds
-- without them.
-- Assumes nothing.
use Rattle.std.specs.Prelude.{ℕ, ◌+◌, ◌<◌, ◌≡◌, Bool, true, List}
use Rattle.skiplist.specs.Row.{Item, Column, AtMost, weights}
use Rattle.skiplist.specs.Entry.{Place, Falls}
use Rattle.skiplist.specs.Recompute.{whole, proved_rank}
use Rattle.skiplist.specs.Find.{Proves, Holds}
use Rattle.skiplist.specs.Label.{Side, sides, rank_bound}
use Rattle.skiplist.specs.Leaves.{AllFit, Fits}

-- the row of c followed by R: its leaves hold what archives keep, no height is above `top`, and ranks fit their four
-- bytes
pub record Archive (Kept : Bool → Item → Type 0) (top : ℕ) (c : Item) (R : List Column) : Type 0 where
  pub first : Kept true c
  pub blocks : AllFit Kept R
  pub low : AtMost top R
  pub few : c.own + weights R < rank_bound

-- entries and a stop that keep the rules of the proof section on leaves and levels (else 7)
pub record WellFormed (Sent : Bool → Item → Type 0) (top : ℕ) (z : Place Side) : Type 0 where
  pub leaves : Fits Sent true z.entries z.item
  pub levels : Falls top z.entries

-- the gateway takes the proof z for position p against the metadata m: in document 01's words,
pub record Accepted (H : List ℕ → List ℕ) (Sent : Bool → Item → Type 0) (top : ℕ) (p : ℕ) (m : Side)
    (z : Place Side) : Type 0 where
  -- not 7
  pub form : WellFormed Sent top z
  -- not 8
  pub proves : Proves (sides H) p z
  -- not 9: "proved rank is not the count, or recomputed root label is not the one held"
  pub count : proved_rank (sides H) z ≡ m.rank
  pub root : (whole (sides H) z).label ≡ m.label

-- and by weights
pub record Checked (H : List ℕ → List ℕ) (Sent : Bool → Item → Type 0) (top : ℕ) (p : ℕ) (m : Side)
    (z : Place Side) : Type 0 where
  pub form : WellFormed Sent top z
  pub holds : Holds (sides H) p z
  pub root : whole (sides H) z ≡ m
