-- What the gateway's private functions answer, on the way to `gateway_of`: the check of one proof, with what is kept of it or what is wrong with it,
-- and the answer from each place on. That they make up `gateway_of` is proved (Answers).
-- Assumes nothing.
use Rattle.std.specs.Prelude.{ℕ, ◌-◌, true, not, cond, ◌&&◌, List, [], ◌∷◌, ◌++◌, ◌≡◌, Result, Ok, Err}
use Rattle.commands.specs.Meaning.{meaning}
use Rattle.commands.specs.declared.Command.{Command}
use Rattle.commands.specs.declared.Metadata.{Metadata}
use Rattle.commands.specs.declared.Operation.TheVariants.{Delete}
use Rattle.gateway.specs.Climbing.{climbed, stop_leaf, below_of}
use Rattle.gateway.specs.declared.Accepted.{Accepted}
use Rattle.gateway.specs.declared.Answer.{Answer}
use Rattle.gateway.specs.declared.examine.Fault.TheVariants.{Misread, Misplaced, Mislabelled}
use Rattle.gateway.specs.declared.examine.Fault.{Fault}
use Rattle.labels.specs.declared.Side.{Side}
use Rattle.octets.specs.Runs.{same}
use Rattle.proofbytes.specs.Form.{well_formed}
use Rattle.proofbytes.specs.Reading.{entries_from, count_of, place_of}
use Rattle.refusals.specs.Order.{Rule, ◌when◌, verdict_of, Verdict}
use Rattle.refusals.specs.declared.Refusal.TheVariants.{NotNeighbours}
use Rattle.refusals.specs.declared.Refusal.TheVariants.{BadProof, WrongPosition, WrongLabel}
use Rattle.refusals.specs.declared.Refusal.{Refusal}
use Rattle.refusals.specs.declared.Which.TheVariants.{First}
use Rattle.refusals.specs.declared.Which.{Which}
use Rattle.skiplist.specs.Blocks.{zeros, shown}
use Rattle.skiplist.specs.Commands.{first_at, reported}
use Rattle.skiplist.specs.Equal.{side-discrete}
use Rattle.skiplist.specs.Meeting.{meets}
use Rattle.skiplist.specs.Recompute.{proved_rank}
use Rattle.gateway.specs.Checking.{𝓢, proves, ranked, rooted, proof_rules}
use Rattle.gateway.specs.Gateway.{later_rules, remaining_of, new_metadata, answered, accepted_of}

-- the same without a word of which proof
unfoldable pub finding_of : List ℕ → ℕ → Metadata → Result (Unit {0}) Fault
finding_of s p m =
    cond (well_formed s) (cond (proves s p) (cond (ranked s m && rooted s m) (Ok tt) (Err Mislabelled)) (Err Misplaced))
    (Err Misread)

-- what is found before anything is hashed
unfoldable pub screened_of : List ℕ → ℕ → Metadata → Result (Unit {0}) Fault
screened_of s p m =
    cond (well_formed s) (cond (proves s p) (cond (ranked s m) (Ok tt) (Err Mislabelled)) (Err Misplaced)) (Err Misread)

-- the label compared, and what the proof recomputes below its first f entries kept
unfoldable pub recomputed_of : List ℕ → Metadata → ℕ → Result Side Fault
recomputed_of s m f =
    cond (same (climbed (entries_from s 0 (count_of s)) (stop_leaf s (count_of s))).label m.label)
    (Ok (below_of s f)) (Err Mislabelled)

abbrev pub kept_of : Result (Unit {0}) Fault → List ℕ → ℕ → Result Side Fault
kept_of (Ok tt) s f = Ok (below_of s f)
kept_of (Err x) s f = Err x

unfoldable pub examined_of : List ℕ → ℕ → Metadata → ℕ → Result Side Fault
examined_of s p m f = kept_of (finding_of s p m) s f

-- the refusal by a fault, and the verdict by a finding
abbrev pub refusal_of : Which → Fault → Refusal
refusal_of w Misread = BadProof w
refusal_of w Misplaced = WrongPosition w
refusal_of w Mislabelled = WrongLabel w

abbrev pub blamed : Which → Result (Unit {0}) Fault → Verdict
blamed w (Ok tt) = Ok tt
blamed w (Err f) = Err (refusal_of w f)

-- a proof that passed: 7 and the rank's part of 9, by which later work is bounded
pub record Passed (s : List ℕ) (m : Metadata) : Type 0 where
  pub formed : well_formed s ≡ true
  pub counted : proved_rank 𝓢 (place_of s) ≡ m.count

-- THE ANSWER IN PARTS
abbrev pub metadata_from : Side → Metadata
metadata_from x = record { count = x.rank; label = x.label }

abbrev pub refused_of : Metadata → Refusal → Answer
refused_of m why = record { verdict = Err why; tag = zeros; metadata = m }

-- what the gateway answers by what a function hands on: an acceptance, or a refusal
abbrev pub answer_with : Metadata → Result Accepted Refusal → Answer
answer_with m (Ok a) = accepted_of a.tag a.metadata
answer_with m (Err why) = refused_of m why

-- a command with one proof s, for p, and the rules that come after the proof's
unfoldable pub one_of : Metadata → ℕ → List ℕ → List Rule → Metadata → Answer
one_of m p s rest new = answered (verdict_of (proof_rules First s p m ++ rest)) (shown (place_of s).item) new m

-- Delete: once both proofs have passed, once the first has, and from the first on
unfoldable pub after_both : Metadata → List ℕ → List ℕ → Answer
after_both m a b =
    answered (verdict_of ((NotNeighbours when not (meets 𝓢 side-discrete (place_of a) (place_of b))) ∷ []))
    (shown (place_of b).item) (remaining_of a b) m

unfoldable pub after_first : Metadata → ℕ → List ℕ → List ℕ → Answer
after_first m p a b = answered (verdict_of (later_rules Delete m p [] a b)) (shown (place_of b).item) (remaining_of a b) m

unfoldable pub deleted_of : Metadata → ℕ → List ℕ → List ℕ → Answer
deleted_of m p a b =
    answered (verdict_of (proof_rules First a (p - 1) m ++ later_rules Delete m p [] a b)) (shown (place_of b).item)
    (remaining_of a b) m

-- any command, from the first proof on
unfoldable pub worked_of : Metadata → Command → List ℕ → List ℕ → Answer
worked_of m k first second =
    answered
    (verdict_of (proof_rules First first (first_at (meaning k)) m ++ later_rules k.operation m k.position k.tag
    first second))
    (reported (meaning k) (place_of first) (place_of second))
    (new_metadata k.operation k.height k.tag m first second) m
