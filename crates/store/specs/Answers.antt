-- What the store answers, for all inputs: check, prove and apply in document 01's words. "The store checks an image
-- (answers its metadata), proves a position 0 to n, and applies an edit." Each call's refusals are one list, in the
-- order of document 01, and the first that is due is given; "a refusal returns .. count 0 and a zero label where the
-- call was given none .. and length, k and count 0; no lent byte changes."
-- Assumes nothing.
use Rattle.std.specs.Prelude.{ℕ, ◌+◌, not, List, [], ◌∷◌, ◌++◌, ltb, length}
use Rattle.octets.specs.Runs.{patch}
use Rattle.refusals.specs.declared.Refusal.TheVariants.{BadImage, BadPosition, NoRoom, TooDeep, Repeated}
use Rattle.refusals.specs.Order.{Rule, ◌when◌, verdict_of, settled, Verdict}
use Rattle.sha256.specs.Hash.{sha256}
use Rattle.skiplist.specs.Tree.{Tree}
use Rattle.skiplist.specs.Entry.{Place}
use Rattle.skiplist.specs.Label.{labelled}
use Rattle.skiplist.specs.Blocks.{Block, way_to, metadata_of}
use Rattle.skiplist.specs.Commands.{edited, repeats}
use Rattle.commands.specs.declared.Command.{Command}
use Rattle.commands.specs.Admission.{admission_rules}
use Rattle.commands.specs.Meaning.{no_metadata, metadata_of_side, meaning}
use Rattle.archive.specs.Form.{image_bytes}
use Rattle.archive.specs.Reading.{count_of, blocks_of, sound}
use Rattle.archive.specs.Writing.{rewritten}
use Rattle.proofbytes.specs.Layout.{most_entries, proof_size}
use Rattle.proofbytes.specs.Writing.{proof_bytes}
use Rattle.store.specs.declared.Checked.{Checked}
use Rattle.store.specs.declared.Proved.{Proved}
use Rattle.store.specs.declared.Applied.{Applied}

-- CHECK the image b
unfoldable pub check_verdict : List ℕ → Verdict
check_verdict b = verdict_of ((BadImage when not (sound b)) ∷ [])

unfoldable pub check_of : List ℕ → Checked
check_of b =
    record {
      verdict = check_verdict b;
      metadata = settled (check_verdict b) (metadata_of_side (metadata_of sha256 (blocks_of b))) no_metadata;
    }

-- PROVE position p of the image b, from the place `at` of a buffer of `room` bytes: document 01's path to p,
unfoldable pub path_at : List ℕ → ℕ → Place Tree
path_at b p = way_to p (blocks_of b)

-- "k, the entries in the path",
abbrev pub entries_at : List ℕ → ℕ → ℕ
entries_at b p = length (path_at b p).entries

-- and its bytes, with the ranks and labels of its sides
abbrev pub proof_at : List ℕ → ℕ → List ℕ
proof_at b p = proof_bytes (labelled sha256 (path_at b p))

-- "Prove: 1, 2, 6, 5."
abbrev pub prove_rules : List ℕ → ℕ → ℕ → ℕ → List Rule
prove_rules b p room at =
    (BadImage when not (sound b)) ∷
    (BadPosition when ltb (count_of b) p) ∷
    (TooDeep when ltb most_entries (entries_at b p)) ∷
    (NoRoom when ltb room (at + proof_size (entries_at b p))) ∷ []

unfoldable pub prove_verdict : List ℕ → ℕ → ℕ → ℕ → Verdict
prove_verdict b p room at = verdict_of (prove_rules b p room at)

unfoldable pub prove_of : List ℕ → ℕ → ℕ → ℕ → Proved
prove_of b p room at =
    record {
      verdict = prove_verdict b p room at;
      length = settled (prove_verdict b p room at) (proof_size (entries_at b p)) 0;
      entries = settled (prove_verdict b p room at) (entries_at b p) 0;
    }

-- the buffer after: "the proof begins at a given place in the buffer", "other bytes stay"
unfoldable pub buffer_after : List ℕ → ℕ → List ℕ → ℕ → List ℕ
buffer_after b p buffer at = settled (prove_verdict b p (length buffer) at) (patch buffer at (proof_at b p)) buffer

-- APPLY the command k to the image b in its buffer: the edited row
abbrev pub row_after : List ℕ → Command → List Block
row_after b k = edited (meaning k) (blocks_of b)

-- after the admission: ask 4's 14, "after 4 and before 5", then 5
abbrev pub closing_rules : List ℕ → Command → List Rule
closing_rules b k =
    (Repeated when repeats (meaning k) (blocks_of b)) ∷
    (NoRoom when ltb (length b) (image_bytes (length (row_after b k)))) ∷ []

-- "Apply: 1, 2, 3, 4, 5", with 14 among them
abbrev pub apply_rules : List ℕ → Command → List Rule
apply_rules b k = (BadImage when not (sound b)) ∷ (admission_rules k (count_of b) ++ closing_rules b k)

unfoldable pub apply_verdict : List ℕ → Command → Verdict
apply_verdict b k = verdict_of (apply_rules b k)

-- "The answer is the new count."
unfoldable pub apply_of : List ℕ → Command → Applied
apply_of b k = record { verdict = apply_verdict b k; count = settled (apply_verdict b k) (length (row_after b k)) 0 }

-- the buffer after: the edited row's image
unfoldable pub image_after : List ℕ → Command → List ℕ
image_after b k = settled (apply_verdict b k) (rewritten b (row_after b k)) b
