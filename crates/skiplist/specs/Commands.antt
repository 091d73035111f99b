-- "Commands", on a row of blocks and on the proofs that they carry, and demand 3 as one statement over entries and
-- stops.
-- Assumes nothing.
use Rattle.std.specs.Prelude.{ℕ, ◌-◌, ◌≤◌, ◌<◌, ◌≡◌, ◌⊎◌, Bool, false, ◌&&◌, List, [], ◌∷◌, ◌++◌, ltb, length, take, drop}
use Rattle.std.proofs.Math.Option.{Option, some}
use Rattle.octets.specs.Runs.{same}
use Rattle.skiplist.specs.Entry.{Place}
use Rattle.skiplist.specs.Edits.{replaced, inserted}
use Rattle.skiplist.specs.Equal.{side-discrete}
use Rattle.skiplist.specs.Meeting.{deleted}
use Rattle.skiplist.specs.Label.{Side, sides}
use Rattle.skiplist.specs.Messages.{tree_messages, proof_messages}
use Rattle.skiplist.specs.Clash.{Clash}
use Rattle.skiplist.specs.Check.{Accepted}
use Rattle.skiplist.specs.Limits.{most_blocks, most_height, digest_bytes}
use Rattle.skiplist.specs.Blocks.{Block, Sent, WithinLimits, block_item, column, root, metadata_of, shown, tag_at}

-- "Read p", "Replace p .. by a tag", "Insert after p .. a tag with a height", "Delete p"
pub data Command : Type 0 where
  read : ℕ → Command
  replace : ℕ → List ℕ → Command
  insert : ℕ → Block → Command
  delete : ℕ → Command

-- neither 2 nor 3 nor 4, for n blocks: "Read p, 1 to n", "Replace p, 1 to n", "Insert after p, 0 to n", "Delete p,
-- 1 to n"
abbrev pub InRange : Command → ℕ → Type 0
InRange (read p) n = (1 ≤ p) × (p ≤ n)
InRange (replace p t) n = (1 ≤ p) × (p ≤ n)
InRange (insert p b) n = (p ≤ n) × (b.height ≤ most_height) × (n < most_blocks)
InRange (delete p) n = (1 ≤ p) × (p ≤ n)

-- "Replace p, 1 to n, by a tag; the height stays": the first block of a run with the tag t
abbrev pub retag : List ℕ → List Block → List Block
retag t [] = []
retag t (b ∷ bs) = record { height = b.height; tag = t } ∷ bs

-- the edited row
abbrev pub edited : Command → List Block → List Block
edited (read p) bs = bs
edited (replace p t) bs = take (p - 1) bs ++ retag t (drop (p - 1) bs)
edited (insert p b) bs = take p bs ++ b ∷ drop p bs
edited (delete p) bs = take (p - 1) bs ++ drop p bs

-- "All report the tag at p before the edit": the position that a command names
abbrev pub spot : Command → ℕ
spot (read p) = p
spot (replace p t) = p
spot (insert p b) = p
spot (delete p) = p

-- ask 4: "Insert after p, p at least 1, is to be refused if the new tag equals the tag at p": the new tag, and the one there
abbrev pub repeats_at : ℕ → List ℕ → List ℕ → Bool
repeats_at p new there = ltb 0 p && same new there

-- of a command on a row
abbrev pub repeats : Command → List Block → Bool
repeats (read p) bs = false
repeats (replace p t) bs = false
repeats (insert p b) bs = repeats_at p b.tag (tag_at p bs)
repeats (delete p) bs = false

-- "Delete p, 1 to n: two proofs, first for p - 1, second for p": the position that the first proof is for
abbrev pub first_at : Command → ℕ
first_at (read p) = p
first_at (replace p t) = p
first_at (insert p b) = p
first_at (delete p) = p - 1

-- the tag reported, from the first proof z and, for Delete, the second proof w
abbrev pub reported : Command → Place Side → Place Side → List ℕ
reported (read p) z w = shown z.item
reported (replace p t) z w = shown z.item
reported (insert p b) z w = shown z.item
reported (delete p) z w = shown w.item

module _ (H : List ℕ → List ℕ) where
  -- "Read and Replace carry one proof, for p; Insert one, for the place p it follows." Delete carries two. The checks
  -- 7, 8, 9 of each, against the metadata m
  abbrev pub Checks : Command → Side → Place Side → Place Side → Type 0
  Checks (read p) m z w = Accepted H Sent most_height p m z
  Checks (replace p t) m z w = Accepted H Sent most_height p m z
  Checks (insert p b) m z w = Accepted H Sent most_height p m z
  Checks (delete p) m z w = Accepted H Sent most_height (p - 1) m z × Accepted H Sent most_height p m w

  -- the new metadata, worked out from the proofs; none where Delete's proofs do not meet (10)
  abbrev pub predicted : Command → Side → Place Side → Place Side → Option Side
  predicted (read p) m z w = some m
  predicted (replace p t) m z w = some (replaced (sides H) (block_item t) z)
  predicted (insert p b) m z w = some (inserted (sides H) (column b) z)
  predicted (delete p) m z w = deleted (sides H) side-discrete z w

  -- the messages hashed in checking the proofs, the first proof's before the second's
  abbrev pub check_messages : Command → Place Side → Place Side → List (List ℕ)
  check_messages (read p) z w = proof_messages H z
  check_messages (replace p t) z w = proof_messages H z
  check_messages (insert p b) z w = proof_messages H z
  check_messages (delete p) z w = proof_messages H z ++ proof_messages H w

  -- DEMAND 3: any row within the limits whose metadata the gateway holds, any command in range, any entries and stops
  -- that pass the checks. The new metadata is the edited row's labelled afresh (so Delete's proofs meet), and the tag
  -- reported is the one at the position; or there is a clash.
  abbrev pub Trusted : Type 0
  Trusted = (k : Command) (bs : List Block) (z w : Place Side) → WithinLimits bs → InRange k (length bs)
      → Checks k (metadata_of H bs) z w
      → Clash H (check_messages k z w) (tree_messages H (root bs))
      ⊎ ((predicted k (metadata_of H bs) z w ≡ some (metadata_of H (edited k bs))) × (reported k z w ≡ tag_at (spot k) bs))

-- the same of every digest of 32 bytes
abbrev pub AlwaysTrusted : Type 0
AlwaysTrusted = (H : List ℕ → List ℕ) → ((m : List ℕ) → length (H m) ≡ digest_bytes) → Trusted H
