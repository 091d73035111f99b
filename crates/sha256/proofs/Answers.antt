-- What `digest` answers, by the message's length, and that two answers to one message are equal.
-- Assumes nothing.
use Rattle.refusals.specs.Order.{Verdict}
use Rattle.std.specs.Prelude.{Ok, Err}
use Rattle.std.proofs.Common.{◌≡◌, ℕ, ◌+◌, ◌<◌, ◌≤◌, Bool, true, false, leb, List, ◌++◌, length, replicate, sym, ap, ◌∙◌, ap₂, length-append, le-leb, leb-false, leb-true}
use borrow.Author.Tests.{lt-leb}
use Rattle.refusals.specs.declared.Refusal.TheVariants.{LongMessage}
use Rattle.sha256.specs.declared.Digested.{Digested}
use Rattle.sha256.specs.Hash.{hash_value, joined, sha256}
use Rattle.sha256.specs.Answer.{longest, digested, long_message, digest_of, Answers}

pub digest_done : (m : List ℕ) → length m ≤ longest → digest_of m ≡ digested (sha256 m)
unfolding digest_of
digest_done m h = rw (le-leb (length m) longest h)

pub digest_refused : (m : List ℕ) → longest < length m → digest_of m ≡ long_message
unfolding digest_of
digest_refused m h = rw (lt-leb (length m) longest h)

-- the answers of the code
answers : (m : List ℕ) (r : Digested) → r ≡ digest_of m → Answers m r
answers m r e = record { verdict = ap (λ (x : Digested). x.verdict) e; bytes = ap (λ (x : Digested). x.bytes) e }

pub answer_done : (m s : List ℕ) (r : Digested) → length m ≤ longest → s ≡ hash_value m → r ≡ digested (joined s) → Answers m r
unfolding sha256
answer_done m s r h e f = answers m r (f ∙ ap (λ (v : List ℕ). digested (joined v)) e ∙ sym (digest_done m h))

pub answer_refused : (m : List ℕ) (r : Digested) → longest < length m → r ≡ long_message → Answers m r
answer_refused m r h f = answers m r (f ∙ sym (digest_refused m h))

-- two parts that are together within the limit
pub fits_within : (a b : List ℕ) (r : Bool) → r ≡ leb (length a + length b) longest → r ≡ true → length (a ++ b) ≤ longest
fits_within a b r e t = rw (length-append a b) (leb-true (length a + length b) longest (sym e ∙ t))

pub fits_not : (a b : List ℕ) (r : Bool) → r ≡ leb (length a + length b) longest → r ≡ false → longest < length (a ++ b)
fits_not a b r e t = rw (length-append a b) (leb-false (length a + length b) longest (sym e ∙ t))

-- what a caller learns
pub answered : (m : List ℕ) (r : Digested) → Answers m r → length m ≤ longest → (r.verdict ≡ Ok tt) × (r.bytes ≡ sha256 m)
answered m r a h =
    let d = digest_done m h in
    (a.verdict ∙ ap (λ (x : Digested). x.verdict) d, a.bytes ∙ ap (λ (x : Digested). x.bytes) d)

pub refused : (m : List ℕ) (r : Digested) → Answers m r → longest < length m
    → (r.verdict ≡ Err LongMessage) × (r.bytes ≡ replicate 32 0)
refused m r a h =
    let d = digest_refused m h in
    (a.verdict ∙ ap (λ (x : Digested). x.verdict) d, a.bytes ∙ ap (λ (x : Digested). x.bytes) d)

-- the pledge settles the answer
pub answer_settled : (m : List ℕ) (r : Digested) → Answers m r → r ≡ digest_of m
answer_settled m r a =
    ap₂ (λ (v : Verdict) (b : List ℕ). record { verdict = v; bytes = b }) a.verdict a.bytes

pub answer_unique : (m : List ℕ) (r q : Digested) → Answers m r → Answers m q → r ≡ q
answer_unique m r q a b = answer_settled m r a ∙ sym (answer_settled m q b)
