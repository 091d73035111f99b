-- THE PLEDGE: every part of the answer, and every byte of the lent buffer after the call.
-- Assumes nothing.
use Rattle.std.specs.Prelude.{ℕ, ◌≡◌, List, length}
use Rattle.store.specs.declared.Proved.{Proved}
use Rattle.jointstore.specs.Answers.{joint_of, buffer_after}

-- prove of the image b, positions ps, into the buffer at a place answers r and leaves `after`
pub record Proves (b ps lent : List ℕ) (at : ℕ) (r : Proved) (after : List ℕ) : Type 0 where
  pub verdict : r.verdict ≡ (joint_of b ps (length lent) at).verdict
  pub bytes : r.length ≡ (joint_of b ps (length lent) at).length
  pub entries : r.entries ≡ 0
  pub buffer : after ≡ buffer_after b ps lent at
