-- ASK 5, THE LATE FILER: "For a block with its time it takes from the store a place p, the blocks at p and p + 1 with times and proofs,
-- and the gateway's metadata. It inserts after p if and only if no block it needs is too long, Insert's own checks and both proofs pass,
-- both blocks match their tags, and the time at p is at or before the new time, which is before the time at p + 1. A missing neighbour,
-- at p = 0 or p = n, is not required."
-- Assumes nothing.
use Rattle.std.specs.Prelude.{ℕ, ◌+◌, ◌≡◌, Bool, not, ◌&&◌, ◌||◌, List, [], ◌∷◌, ◌++◌, ltb, leb, length}
use Rattle.octets.specs.Runs.{same}
use Rattle.refusals.specs.declared.Which.TheVariants.{Second}
use Rattle.refusals.specs.declared.Refusal.TheVariants.{LongMessage, OutOfTime, WrongBlock}
use Rattle.refusals.specs.Order.{Rule, ◌when◌, verdict_of}
use Rattle.sha256.specs.Hash.{sha256}
use Rattle.skiplist.specs.Blocks.{shown}
use Rattle.commands.specs.declared.Metadata.{Metadata}
use Rattle.commands.specs.declared.Operation.TheVariants.{Insert}
use Rattle.commands.specs.declared.Command.{Command}
use Rattle.labels.specs.Tags.{tag_message, most_readings}
use Rattle.proofbytes.specs.Reading.{place_of}
use Rattle.filer.specs.declared.Filing as code
use Rattle.gateway.specs.declared.Answer.{Answer}
use Rattle.gateway.specs.Checking.{proof_rules}
use Rattle.gateway.specs.Gateway.{gateway_rules, inserted_of, answered}

-- a block with its time
pub record Timed : Type 0 where
  pub time : ℕ
  pub readings : List ℕ

abbrev pub tag_for : Timed → List ℕ
tag_for x = sha256 (tag_message x.time x.readings)

-- the place p, the new block with its height, the blocks that are said to stand at p and at p + 1
pub record Proposal : Type 0 where
  pub position : ℕ
  pub height : ℕ
  pub new : Timed
  pub left : Timed
  pub right : Timed

-- as the code takes it: the numbers, and the readings of the new block, the left and the right one
abbrev pub timed : ℕ → List ℕ → Timed
timed time readings = record { time = time; readings = readings }

abbrev pub proposed : code.Filing → List ℕ → List ℕ → List ℕ → Proposal
proposed f new left right =
    record {
      position = f.position;
      height = f.height;
      new = timed f.time new;
      left = timed f.left left;
      right = timed f.right right;
    }

-- Insert of the new block after p
abbrev pub insertion : Proposal → Command
insertion q = record { operation = Insert; position = q.position; height = q.height; tag = tag_for q.new }

-- of the neighbours that are needed, the left one where p is at least 1 and the right one where p is less than n, does one fail?
abbrev pub either : ℕ → ℕ → Bool → Bool → Bool
either p n left right = (ltb 0 p && left) || (ltb p n && right)

-- 11: "for the new block or a needed neighbour"
abbrev pub is_long : List ℕ → Bool
is_long readings = ltb most_readings (length readings)

abbrev pub long_of : ℕ → ℕ → List ℕ → List ℕ → List ℕ → Bool
long_of p n new left right = is_long new || either p n (is_long left) (is_long right)

-- rules that are looked at only where b
abbrev pub only : Bool → List Rule → List Rule
only b [] = []
only b (r ∷ rs) = (r.refusal when b && r.due) ∷ only b rs

-- "7, 8, 9 for the second proof, after all of Insert's own"
abbrev pub second_rules : Metadata → ℕ → List ℕ → List Rule
second_rules m p second = only (ltb p m.count) (proof_rules Second second (p + 1) m)

-- 16: "for one that does not match its tag", the tag that its proof shows
abbrev pub matched : Timed → List ℕ → Bool
matched x s = same (tag_for x) (shown (place_of s).item)

abbrev pub wrong_of : ℕ → ℕ → Timed → Timed → List ℕ → List ℕ → Bool
wrong_of p n left right first second = either p n (not (matched left first)) (not (matched right second))

-- 15: "for a failed comparison"
abbrev pub untimely : ℕ → ℕ → ℕ → ℕ → ℕ → Bool
untimely p n new left right = either p n (not (leb left new)) (not (ltb new right))

abbrev pub neighbour_rules : ℕ → ℕ → ℕ → Timed → Timed → List ℕ → List ℕ → List Rule
neighbour_rules p n new left right first second =
    (WrongBlock when wrong_of p n left right first second) ∷
    (OutOfTime when untimely p n new left.time right.time) ∷
    []

-- all of them, in order
abbrev pub filing_rules : Metadata → Proposal → List ℕ → List ℕ → List Rule
filing_rules m q first second =
    (LongMessage when long_of q.position m.count q.new.readings q.left.readings q.right.readings) ∷
    (gateway_rules m (insertion q) first []
    ++ (second_rules m q.position second
    ++ neighbour_rules q.position m.count q.new.time q.left q.right first second))

-- Insert's answer
unfoldable pub filed_of : Metadata → Proposal → List ℕ → List ℕ → Answer
filed_of m q first second =
    answered (verdict_of (filing_rules m q first second)) (shown (place_of first).item)
    (inserted_of q.height (tag_for q.new) first) m

-- THE PLEDGE
pub record Files (m : Metadata) (q : Proposal) (first second : List ℕ) (r : Answer) : Type 0 where
  pub verdict : r.verdict ≡ (filed_of m q first second).verdict
  pub tag : r.tag ≡ (filed_of m q first second).tag
  pub metadata : r.metadata ≡ (filed_of m q first second).metadata
