-- What the private functions hold: one work buffer, in which each proof is spelled out over the one before. No pledge cites these.
-- Assumes nothing.
use Rattle.std.specs.Prelude.{ℕ, zero, suc, ◌≤◌, ◌≡◌, cond, List, length, Result, Ok, Err}
use Rattle.octets.specs.Runs.{part, same}
use Rattle.refusals.specs.declared.Refusal.{Refusal}
use Rattle.refusals.specs.Order.{verdict_of, Verdict}
use Rattle.commands.specs.declared.Metadata.{Metadata}
use Rattle.proofbytes.specs.Layout.{most_entries}
use Rattle.labels.specs.declared.Side.{Side}
use Rattle.proofbytes.specs.Reading.{entries_from, count_of}
use Rattle.gateway.specs.declared.examine.Fault.{Fault}
use Rattle.gateway.specs.declared.examine.Fault.TheVariants.{Mislabelled}
use Rattle.gateway.specs.Climbing.{climbed}
use Rattle.jointbytes.specs.Reading.{piece_of, spelled_entries}
use Rattle.jointgateway.specs.declared.Answer.{Answer}
use Rattle.jointgateway.specs.Joint.{proof_at, place_rules, tags_of, no_tags, answered}

-- room for the longest proof
abbrev pub room : ℕ
room = 7677

-- the i-th proof is spelled out in w
pub record Spelled (w s : List ℕ) (i : ℕ) : Type 0 where
  pub size : length w ≡ room
  pub few : length (spelled_entries s i) ≤ most_entries
  pub bytes : part w 0 (length (proof_at s i)) ≡ proof_at s i

-- before the i-th proof: the one before is
abbrev pub Before : List ℕ → List ℕ → ℕ → Type 0
Before w s zero = length w ≡ room
Before w s (suc i) = Spelled w s i

-- what is kept before the i-th proof: the side that the one before, which passed, recomputes below the entries that they share
abbrev pub Kept : List ℕ → Metadata → ℕ → Side → Type 0
Kept s m zero t = Unit {0}
Kept s m (suc i) t = (climbed (entries_from (proof_at s (suc i)) 0 (piece_of s (suc i)).shared) t).label ≡ m.label

-- the same of the i-th proof w itself, which shares c entries
abbrev pub KeptIn : List ℕ → Metadata → ℕ → ℕ → Side → Type 0
KeptIn w m zero c t = Unit {0}
KeptIn w m (suc i) c t = (c ≤ count_of w) × ((climbed (entries_from w 0 c) t).label ≡ m.label)

-- by the label of the root over x, which w recomputes below its first c entries; u is kept
unfoldable pub settled_of : List ℕ → Metadata → ℕ → Side → Side → Result Side Fault
settled_of w m c x u =
    cond (same (climbed (entries_from w 0 c) x).label m.label) (Ok u) (Err Mislabelled)

abbrev pub refused_of : Metadata → Refusal → Answer
refused_of m why = record { verdict = Err why; number = 0; tags = no_tags; metadata = m }

-- what the gateway answers by a verdict, with n tags ts where nothing was refused
abbrev pub answer_with : Metadata → ℕ → List ℕ → Verdict → Answer
answer_with m n ts (Ok tt) = record { verdict = Ok tt; number = n; tags = ts; metadata = m }
answer_with m n ts (Err why) = refused_of m why

-- once the positions and the form have passed
unfoldable pub proved_of : Metadata → List ℕ → List ℕ → Answer
proved_of m ps s = answered (verdict_of (place_rules s m 0 ps)) (length ps) (tags_of s (length ps)) m
