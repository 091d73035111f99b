-- A tag's answer: done with the digest of the block's message, refused with zeros for readings that are too long. A message is
-- one-to-one in time and readings, and two blocks of one tag are the same or their messages clash.
-- Assumes nothing.
use Rattle.std.specs.Prelude.{Ok, Err, is_ok}
use Rattle.std.proofs.Common.{◌≡◌, ℕ, ◌+◌, ◌<◌, ◌≤◌, true, false, ◌⊎◌, List, [], ◌∷◌, ◌++◌, length, drop, sym, refl, ap, ◌∙◌, inl, inr, arith, drop_at, le-ltb, lt-ltb}
use mathlib.Core.Bool.{false≢true}
use mathlib.Core.List.Memᴰ
use Rattle.refusals.specs.declared.Refusal.TheVariants.{LongMessage}
use Rattle.refusals.specs.Order.{verdict_of, settled, Verdict}
use Rattle.refusals.proofs.OrderLaws.{done_settled, refused-settled}
use Rattle.octets.specs.Numbers.{be, number_at}
use Rattle.octets.specs.Runs.{same, patch}
use Rattle.octets.proofs.NumberLaws.{read_middle}
use Rattle.octets.proofs.RunLaws.{same-true}
use Rattle.octets.proofs.PatchLaws.{patch_next, patch_all}
use Rattle.sha256.specs.Hash.{sha256}
use Rattle.sha256.proofs.Hashes.{sha256-length}
use Rattle.skiplist.specs.Blocks.{zeros}
use Rattle.skiplist.proofs.ClashLaws.{same_message}
use Rattle.labels.specs.declared.Tagged.{Tagged}
use Rattle.labels.specs.Tags.{tag_head, tag_message, time_bound, BlockClash, most_readings, tag_rules, tag_of, match_of, Tags, Matches}

-- the head's bytes, as the code writes them over seven others
pub head_written : (d x y z : List ℕ) (time n : ℕ) → length d ≡ 7 → x ≡ patch d 0 (be 1 1) → y ≡ patch x 1 (be 2 (4 + n))
    → z ≡ patch y 3 (be 4 time) → z ≡ tag_head time n
head_written d x y z time n h ex ey ez =
    let a = be 1 1 in
    let b = be 2 (4 + n) in
    let c = be 4 time in
    ez ∙ rw (
      ey,
      ex,
      patch_next d a b 0 1 (omega arith) (omega arith),
      patch_next d (a ++ b) c 0 3 (omega arith) (omega arith),
      patch_all d ((a ++ b) ++ c) h,
    )

-- ---- the answers

pub tag-done : (time : ℕ) (readings : List ℕ) → length readings ≤ most_readings
    → tag_of time readings ≡ record { verdict = Ok tt; tag = sha256 (tag_message time readings) }
unfolding tag_of
tag-done time readings h = rw (le-ltb most_readings (length readings) h)

pub tag-refused : (time : ℕ) (readings : List ℕ) → most_readings < length readings
    → tag_of time readings ≡ record { verdict = Err LongMessage; tag = zeros }
unfolding tag_of
tag-refused time readings h = rw (lt-ltb most_readings (length readings) h)

pub as_tag : (time : ℕ) (readings : List ℕ) (r : Tagged) → r ≡ tag_of time readings → Tags time readings r
as_tag time readings r e = record { verdict = ap (λ (x : Tagged). x.verdict) e; tag = ap (λ (x : Tagged). x.tag) e }

-- the readings hashed after the head
pub tagged : (time : ℕ) (readings head bytes : List ℕ) → length readings ≤ most_readings → head ≡ tag_head time (length readings)
    → bytes ≡ sha256 (head ++ readings) → Tags time readings (record { verdict = Ok tt; tag = bytes })
unfolding tag_message
tagged time readings head bytes h eh eb =
    as_tag time readings _
    (ap (λ (b : List ℕ). record { verdict = Ok tt; tag = b }) (eb ∙ ap (λ (x : List ℕ). sha256 (x ++ readings)) eh)
    ∙ sym (tag-done time readings h))

pub match-done : (tag : List ℕ) (time : ℕ) (readings : List ℕ) → length readings ≤ most_readings
    → match_of tag time readings ≡ record { verdict = Ok tt; yes = same (sha256 (tag_message time readings)) tag }
unfolding match_of
match-done tag time readings h = rw (le-ltb most_readings (length readings) h)

-- a yes tells the tag
pub match-yes : (tag : List ℕ) (time : ℕ) (readings : List ℕ) → (match_of tag time readings).yes ≡ true
    → sha256 (tag_message time readings) ≡ tag
unfolding match_of
match-yes tag time readings e = go (verdict_of (tag_rules readings)) e
  where
    go : (v : Verdict) → settled v (same (sha256 (tag_message time readings)) tag) false ≡ true → sha256 (tag_message time readings) ≡ tag
    go (Ok tt) e = same-true (sha256 (tag_message time readings)) tag e
    go (Err w) e = absurd (false≢true e)

-- matching, from the tag's answer
pub as_match : (tag : List ℕ) (time : ℕ) (readings : List ℕ) (t : Tagged) → Tags time readings t → is_ok t.verdict ≡ true
    → Matches tag time readings (record { verdict = t.verdict; yes = same t.tag tag })
unfolding tag_of match_of
as_match tag time readings t p e =
    let v = verdict_of (tag_rules readings) in
    let m = sha256 (tag_message time readings) in
    let d : is_ok v ≡ true = rw p.verdict at e in
    record {
      verdict = p.verdict;
      yes = rw (p.tag, done_settled v m zeros d, done_settled v (same m tag) false d);
    }

pub as_refused : (tag : List ℕ) (time : ℕ) (readings : List ℕ) (t : Tagged) → Tags time readings t → is_ok t.verdict ≡ false
    → Matches tag time readings (record { verdict = t.verdict; yes = false })
unfolding tag_of match_of
as_refused tag time readings t p e =
    let v = verdict_of (tag_rules readings) in
    let d : is_ok v ≡ false = rw p.verdict at e in
    record {
      verdict = p.verdict;
      yes = rw (refused-settled v (same (sha256 (tag_message time readings)) tag) false d);
    }

-- ---- what a tag is worth

message-time : (time : ℕ) (readings : List ℕ) → time < time_bound → number_at 4 (tag_message time readings) 3 ≡ time
unfolding tag_message
message-time time readings h = read_middle 4 time (be 1 1 ++ be 2 (4 + length readings)) readings 3 (omega arith) h

message_readings : (time : ℕ) (readings : List ℕ) → drop 7 (tag_message time readings) ≡ readings
unfolding tag_message
message_readings time readings = drop_at (tag_head time (length readings)) readings 7 (omega arith)

pub message_one_to_one : (t u : ℕ) (r s : List ℕ) → t < time_bound → u < time_bound → tag_message t r ≡ tag_message u s
    → (t ≡ u) × (r ≡ s)
message_one_to_one t u r s ht hu e = (
  sym (message-time t r ht) ∙ ap (λ (m : List ℕ). number_at 4 m 3) e ∙ message-time u s hu,
  sym (message_readings t r) ∙ ap (drop 7) e ∙ message_readings u s,
)

pub same_tag : (t u : ℕ) (r s : List ℕ) → t < time_bound → u < time_bound
    → sha256 (tag_message t r) ≡ sha256 (tag_message u s) → BlockClash t r u s ⊎ ((t ≡ u) × (r ≡ s))
same_tag t u r s ht hu e =
    go (same_message sha256 sha256-length _ _ (tag_message t r) (tag_message u s) (Memᴰ.head refl) (Memᴰ.head refl) e)
  where
    go : BlockClash t r u s ⊎ (tag_message t r ≡ tag_message u s) → BlockClash t r u s ⊎ ((t ≡ u) × (r ≡ s))
    go (inl c) = inl c
    go (inr e) = inr (message_one_to_one t u r s ht hu e)

-- an example: the byte 170, sampled at second 16,909,060
pub message_example : tag_message 16909060 (170 ∷ []) ≡ 1 ∷ 0 ∷ 5 ∷ 1 ∷ 2 ∷ 3 ∷ 4 ∷ 170 ∷ []
unfolding tag_message
message_example = refl
