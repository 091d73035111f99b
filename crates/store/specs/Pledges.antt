-- The pledges of the public calls: every part of the answer, and every byte of a lent buffer after the call.
-- Assumes nothing.
use Rattle.std.specs.Prelude.{ℕ, ◌≡◌, List, length}
use Rattle.commands.specs.declared.Command.{Command}
use Rattle.store.specs.declared.Checked.{Checked}
use Rattle.store.specs.declared.Proved.{Proved}
use Rattle.store.specs.declared.Applied.{Applied}
use Rattle.store.specs.Answers.{check_of, prove_of, buffer_after, apply_of, image_after}

-- check of the image b answers r
pub record Checks (b : List ℕ) (r : Checked) : Type 0 where
  pub verdict : r.verdict ≡ (check_of b).verdict
  pub metadata : r.metadata ≡ (check_of b).metadata

-- prove of the image b, position p, into the buffer at a place answers r and leaves `after`
pub record Proves (b : List ℕ) (p : ℕ) (lent : List ℕ) (at : ℕ) (r : Proved) (after : List ℕ) : Type 0 where
  pub verdict : r.verdict ≡ (prove_of b p (length lent) at).verdict
  pub bytes : r.length ≡ (prove_of b p (length lent) at).length
  pub entries : r.entries ≡ (prove_of b p (length lent) at).entries
  pub buffer : after ≡ buffer_after b p lent at

-- apply of the command k to the image b answers r and leaves `after`
pub record Applies (b : List ℕ) (k : Command) (r : Applied) (after : List ℕ) : Type 0 where
  pub verdict : r.verdict ≡ (apply_of b k).verdict
  pub count : r.count ≡ (apply_of b k).count
  pub image : after ≡ image_after b k
