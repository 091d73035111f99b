-- What the store answers to a set of positions, for all inputs: the one joint proof, or the first refusal that is due.
-- Assumes nothing.
use Rattle.std.specs.Prelude.{ℕ, ◌+◌, Bool, true, not, ◌&&◌, List, [], ◌∷◌, map, leb, ltb, length}
use Rattle.octets.specs.Runs.{patch}
use Rattle.refusals.specs.declared.Refusal.TheVariants.{BadImage, BadPosition, NoRoom, TooDeep, BadSet}
use Rattle.refusals.specs.Order.{Rule, ◌when◌, verdict_of, settled, Verdict}
use Rattle.sha256.specs.Hash.{sha256}
use Rattle.skiplist.specs.Label.{labelled}
use Rattle.archive.specs.Reading.{count_of, sound}
use Rattle.proofbytes.specs.Layout.{most_entries}
use Rattle.jointbytes.specs.Positions.{is_set, within}
use Rattle.jointbytes.specs.Spelling.{Raw, raw_of, joint_bytes}
use Rattle.store.specs.declared.Proved.{Proved}
use Rattle.store.specs.Answers.{path_at, entries_at}

-- the proof of position p of the image b, as its records; the joint proof of the positions ps
abbrev pub raw_at : List ℕ → ℕ → Raw
raw_at b p = raw_of (labelled sha256 (path_at b p))

unfoldable pub joint_at : List ℕ → List ℕ → List ℕ
joint_at b ps = joint_bytes (map (raw_at b) ps)

-- not 6: no path has more than 200 entries
unfoldable pub all_shallow : List ℕ → List ℕ → Bool
all_shallow b [] = true
all_shallow b (p ∷ ps) = leb (entries_at b p) most_entries && all_shallow b ps

-- "13 .. in the store, after 1; then 2; in the store then 6, 5"
abbrev pub joint_rules : List ℕ → List ℕ → ℕ → ℕ → List Rule
joint_rules b ps room at =
    (BadImage when not (sound b)) ∷
    (BadSet when not (is_set ps)) ∷
    (BadPosition when not (within (count_of b) ps)) ∷
    (TooDeep when not (all_shallow b ps)) ∷
    (NoRoom when ltb room (at + length (joint_at b ps))) ∷ []

unfoldable pub joint_verdict : List ℕ → List ℕ → ℕ → ℕ → Verdict
joint_verdict b ps room at = verdict_of (joint_rules b ps room at)

-- the length; m paths have no one number of entries, so k is 0
unfoldable pub joint_of : List ℕ → List ℕ → ℕ → ℕ → Proved
joint_of b ps room at =
    record {
      verdict = joint_verdict b ps room at;
      length = settled (joint_verdict b ps room at) (length (joint_at b ps)) 0;
      entries = 0;
    }

-- the buffer after; other bytes stay
unfoldable pub buffer_after : List ℕ → List ℕ → List ℕ → ℕ → List ℕ
buffer_after b ps buffer at = settled (joint_verdict b ps (length buffer) at) (patch buffer at (joint_at b ps)) buffer
