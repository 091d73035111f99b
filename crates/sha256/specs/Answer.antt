-- What `digest` answers, and `digest_joined` of the two parts joined: the digest of a message of at most 4,096 bytes; for a longer one
-- refusal 11 and 32 zero bytes.
-- Assumes nothing.
use Rattle.std.specs.Prelude.{◌≡◌, ℕ, cond, List, length, replicate, nat_le, Ok, Err}
use Rattle.refusals.specs.declared.Refusal.TheVariants.{LongMessage}
use Rattle.sha256.specs.declared.Digested.{Digested}
use Rattle.sha256.specs.Hash.{sha256}

-- "Block or digested message 0 to 4,096 bytes."
abbrev pub longest : ℕ
longest = 4096

-- the answers
abbrev pub digested : List ℕ → Digested
digested bytes = record { verdict = Ok tt; bytes = bytes }

abbrev pub long_message : Digested
long_message = record { verdict = Err LongMessage; bytes = replicate 32 0 }

unfoldable pub digest_of : List ℕ → Digested
digest_of m = cond (nat_le (length m) longest) (digested (sha256 m)) long_message

pub record Answers (m : List ℕ) (r : Digested) : Type 0 where
  pub verdict : r.verdict ≡ (digest_of m).verdict
  pub bytes : r.bytes ≡ (digest_of m).bytes
