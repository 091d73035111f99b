-- Document 02, ask 1: a block's tag "is the digest of: version byte 1, length of the rest in two bytes, sample time in four bytes
-- (seconds), readings. Matching takes a time as well. .. 11 is given for readings over 4,089 bytes." Document 01: "Matching a block
-- against a tag says yes exactly when its digest is that tag, and refuses a long block with 11."
-- Assumes nothing.
use Rattle.std.specs.Prelude.{◌≡◌, ℕ, ◌+◌, ◌^◌, false, List, [], ◌∷◌, ◌++◌, length, nat_lt}
use Rattle.refusals.specs.declared.Refusal.TheVariants.{LongMessage}
use Rattle.refusals.specs.Order.{Rule, ◌when◌, verdict_of, settled}
use Rattle.octets.specs.Numbers.{be}
use Rattle.octets.specs.Runs.{same}
use Rattle.sha256.specs.Hash.{sha256}
use Rattle.skiplist.specs.Blocks.{zeros}
use Rattle.skiplist.specs.Clash.{Clash}
use Rattle.labels.specs.declared.Tagged.{Tagged}
use Rattle.labels.specs.declared.Matched.{Matched}

-- what stands before so many bytes of readings
abbrev pub tag_head : ℕ → ℕ → List ℕ
tag_head time n = be 1 1 ++ (be 2 (4 + n) ++ be 4 time)

-- the message that a block's tag is the digest of
unfoldable pub tag_message : ℕ → List ℕ → List ℕ
tag_message time readings = tag_head time (length readings) ++ readings

-- a time is any number of four bytes
abbrev pub time_bound : ℕ
time_bound = 256 ^ 4

-- two blocks' messages are two different ones with equal digest
abbrev pub BlockClash : ℕ → List ℕ → ℕ → List ℕ → Type 0
BlockClash t r u s = Clash sha256 (tag_message t r ∷ []) (tag_message u s ∷ [])

abbrev pub most_readings : ℕ
most_readings = 4089

abbrev pub tag_rules : List ℕ → List Rule
tag_rules readings = (LongMessage when nat_lt most_readings (length readings)) ∷ []

unfoldable pub tag_of : ℕ → List ℕ → Tagged
tag_of time readings =
    let v = verdict_of (tag_rules readings) in
    record { verdict = v; tag = settled v (sha256 (tag_message time readings)) zeros }

unfoldable pub match_of : List ℕ → ℕ → List ℕ → Matched
match_of tag time readings =
    let v = verdict_of (tag_rules readings) in
    record { verdict = v; yes = settled v (same (sha256 (tag_message time readings)) tag) false }

-- THE PLEDGES
pub record Tags (time : ℕ) (readings : List ℕ) (r : Tagged) : Type 0 where
  pub verdict : r.verdict ≡ (tag_of time readings).verdict
  pub tag : r.tag ≡ (tag_of time readings).tag

pub record Matches (tag : List ℕ) (time : ℕ) (readings : List ℕ) (r : Matched) : Type 0 where
  pub verdict : r.verdict ≡ (match_of tag time readings).verdict
  pub yes : r.yes ≡ (match_of tag time readings).yes
