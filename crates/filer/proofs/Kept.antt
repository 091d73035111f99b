-- TIMES ARE KEPT: both proofs are proofs of demand 3, Insert's and a Read's of the place after; so each neighbour's tag is that of the block
-- which stands there. Where its time is another, two blocks share a tag; else the place is the only one for the new time.
-- Assumes nothing.
use Rattle.std.specs.Prelude.{Ok}
use Prim.Native.Nat.{ℕ, zero, suc, ◌+◌, ◌≤◌, ◌<◌}
use native.Mathlib.Omega.{arith}
use native.Mathlib.Decide.{ℕ_discrete}
use mathlib.Core.Path.{◌≡◌, refl, sym, ap, subst, ◌∙◌}
use mathlib.Core.Logic.{◌⊎◌, inl, inr}
use mathlib.Core.Bool.{true, false, cond}
use mathlib.Core.List.Memᴰ
use mathlib.Core.List.{List, [], ◌∷◌, ◌++◌, Memᴰ, append-nil}
use lib.Dec.{ltb}
use lib.ListN.{length, get_or, length-map}
use borrow.Author.Tests.{lt-ltb, le-ltb, leb-true, ltb-true, not-false}
use Rattle.octets.proofs.RunLaws.{same-true}
use Rattle.refusals.specs.declared.Which.TheVariants.{Second}
use Rattle.refusals.specs.Order.{verdict_of}
use Rattle.refusals.proofs.OrderLaws.{append-done, done-none}
use Rattle.sha256.specs.Hash.{sha256}
use Rattle.skiplist.specs.Label.{Side}
use Rattle.skiplist.specs.Messages.{tree_messages}
use Rattle.skiplist.specs.Clash.{Clash}
use Rattle.skiplist.specs.Blocks.{Block, WithinLimits, root, metadata_of, shown, tag_after, tag_at}
use Rattle.skiplist.proofs.Cases.{order, never}
use Rattle.skiplist.proofs.ClashLaws.{◌>>=◌, Within, clash-within}
use Rattle.skiplist.proofs.WayLaws.{metadata_count}
use Rattle.commands.specs.declared.Metadata.{Metadata}
use Rattle.commands.specs.declared.Operation.TheVariants.{Read}
use Rattle.commands.specs.declared.Command.{Command}
use Rattle.commands.specs.Meaning.{held_side}
use Rattle.commands.proofs.RangeLaws.{admitted_is, range_admitted}
use Rattle.proofbytes.specs.Reading.{place_of}
use Rattle.gateway.specs.Gateway.{opening_rules, gateway_rules}
use Rattle.gateway.specs.Hashing.{one_messages, gateway_messages}
use Rattle.gateway.proofs.Answers.{opening_count, opening_admitted}
use Rattle.gateway.proofs.Demands.{rules_found, Passing, Says, model_says, done_passing, some_inj}
use Rattle.times.specs.Times.{NeverFall, put_after}
use Rattle.times.proofs.PlaceLaws.{Fits, place_only, put_rises}
use Rattle.filer.specs.Filing.{Timed, Proposal, tag_for, insertion, long_of, second_rules, matched, wrong_of}
use Rattle.filer.specs.Filing.{untimely, neighbour_rules, filing_rules, filed_of}
use Rattle.filer.specs.Archive.{Stand, times_of, block_after, needed, SharedTag}
use Rattle.filer.specs.Demand.{filing_messages, Filed, TimesKept}
use Rattle.filer.proofs.Answers.{left_holds, right_holds}
use Rattle.filer.proofs.Standing.{stand-length, stand-tag, stand-put, block_in, times-put, time_after}

-- WHAT AN ACCEPTED FILING PASSED
pub record Accepted (m : Metadata) (q : Proposal) (first second : List ℕ) : Type 0 where
  pub short : long_of q.position m.count q.new.readings q.left.readings q.right.readings ≡ false
  pub inserted : verdict_of (gateway_rules m (insertion q) first []) ≡ Ok tt
  pub followed : verdict_of (second_rules m q.position second) ≡ Ok tt
  pub right_blocks : wrong_of q.position m.count q.left q.right first second ≡ false
  pub in_time : untimely q.position m.count q.new.time q.left.time q.right.time ≡ false

pub accepted : (m : Metadata) (q : Proposal) (first second : List ℕ) → verdict_of (filing_rules m q first second) ≡ Ok tt
    → Accepted m q first second
accepted m q first second done =
    let l = (done-none (filing_rules m q first second) done).0 in
    let nb = neighbour_rules q.position m.count q.new.time q.left q.right first second in
    let rest = gateway_rules m (insertion q) first [] ++ (second_rules m q.position second ++ nb) in
    let tail : verdict_of rest ≡ Ok tt = rw l at done in
    let g = append-done (gateway_rules m (insertion q) first []) (second_rules m q.position second ++ nb) tail in
    let s = append-done (second_rules m q.position second) nb g.1 in
    let n = done-none nb s.1 in
    record { short = l; inserted = g.0; followed = s.0; right_blocks = n.0; in_time = n.1.0 }

-- THE TWO PROOFS: Insert's, and a Read's of the place after
abbrev pub reading : ℕ → Command
reading p = record { operation = Read; position = p; height = 0; tag = [] }

module _ (m : Metadata) (q : Proposal) (first second : List ℕ) (a : Accepted m q first second) where
  inserting : Passing m (insertion q) first []
  inserting = done_passing m (insertion q) first [] a.inserted

  first_hashed : Within (gateway_messages m (insertion q) first []) (filing_messages m q first second)
  first_hashed w i = rw a.short (Memᴰ.append_left _ i)

  module _ (h : q.position < m.count) where
    opening : verdict_of (opening_rules m (reading (q.position + 1))) ≡ Ok tt
    opening =
        let small = opening_count m (insertion q) inserting.opening in
        rw (le-ltb 4096 m.count small)
        (range_admitted Read (q.position + 1) 0 [] m.count (omega arith, omega (arith, h)))

    reads : Passing m (reading (q.position + 1)) second []
    reads = record {
      opening = opening;
      first = rules_found Second second (q.position + 1) m (rw (lt-ltb q.position m.count h) at a.followed);
      second = λ e. never cc;
    }

    read_messages : gateway_messages m (reading (q.position + 1)) second [] ≡ one_messages second (q.position + 1) m
    read_messages = rw opening (append-nil (one_messages second (q.position + 1) m))

    second_hashed : Within (gateway_messages m (reading (q.position + 1)) second []) (filing_messages m q first second)
    second_hashed w i =
        let j = subst (Memᴰ w) read_messages i in
        rw (a.short, a.inserted, lt-ltb q.position m.count h)
        (Memᴰ.append_right (gateway_messages m (insertion q) first []) j)

-- A NEIGHBOUR that matches the tag after i others has the time of the block there, or the two share a tag
same_time : (xs : List Timed) (bs : List Block) (sent : List Timed) (x : Timed) (s : List ℕ) (i : ℕ) → Stand xs bs
    → Memᴰ x sent → i < length bs → matched x s ≡ true → shown (place_of s).item ≡ tag_after i bs
    → SharedTag sent xs ⊎ (x.time ≡ get_or (times_of xs) i 0)
same_time xs bs sent x s i stand has h e t = go (ℕ_discrete x.time (block_after i xs).time)
  where
    go : Dec (x.time ≡ (block_after i xs).time) → SharedTag sent xs ⊎ (x.time ≡ get_or (times_of xs) i 0)
    go (yes p) = inr (p ∙ sym (time_after i xs))
    go (no p) = inl (record {
      one = x;
      other = block_after i xs;
      one_sent = has;
      other_kept = block_in xs i (omega (arith, h, stand-length xs bs stand));
      differ = λ d. p (ap (λ (y : Timed). y.time) d);
      same = same-true (tag_for x) (shown (place_of s).item) e ∙ t ∙ sym (stand-tag xs bs i stand h);
    })

left-needed : (q : Proposal) (n : ℕ) → 0 < q.position → Memᴰ q.left (needed q n)
left-needed q n h = rw (lt-ltb 0 q.position h) (Memᴰ.head refl)

right-needed : (q : Proposal) (n : ℕ) → q.position < n → Memᴰ q.right (needed q n)
right-needed q n h =
    rw (lt-ltb q.position n h) (Memᴰ.append_right (cond (ltb 0 q.position) (q.left ∷ []) []) (Memᴰ.head refl))

-- THE PLACE FITS, or two blocks share a tag
module _ (m : Metadata) (q : Proposal) (first second : List ℕ) (a : Accepted m q first second) (bs : List Block)
    (xs : List Timed) (stand : Stand xs bs) (count : m.count ≡ length bs) where
  abbrev S : Type 0
  S = SharedTag (needed q (length bs)) xs

  within : q.position ≤ m.count
  within = (admitted_is (insertion q) m.count (opening_admitted m (insertion q) (inserting m q first second a).opening)).within

  left_fits : shown (place_of first).item ≡ tag_at q.position bs
      → S ⊎ ((i : ℕ) → q.position ≡ suc i → get_or (times_of xs) i 0 ≤ q.new.time)
  left_fits there = go q.position refl
    where
      go : (p : ℕ) → q.position ≡ p → S ⊎ ((i : ℕ) → q.position ≡ suc i → get_or (times_of xs) i 0 ≤ q.new.time)
      go zero e = inr (λ i f. absurd (omega (arith, e, f)))
      go (suc j) e =
          let h : 0 < q.position = omega (arith, e) in
          let yes = not-false _ (left_holds q.position m.count _ _ a.right_blocks h) in
          let le = leb-true q.left.time q.new.time
          (not-false _ (left_holds q.position m.count _ _ a.in_time h)) in
          do
            t ← same_time xs bs (needed q (length bs)) q.left first j stand (left-needed q (length bs) h)
                (omega (arith, e, count, within)) yes (there ∙ ap (λ i. tag_at i bs) e)
            inr (λ i f. let k : i ≡ j = omega (arith, e, f) in rw k (omega (arith, le, t)))

  right_fits : (q.position < m.count → shown (place_of second).item ≡ tag_after q.position bs)
      → S ⊎ (q.position < m.count → q.new.time < get_or (times_of xs) q.position 0)
  right_fits there = go (order q.position m.count)
    where
      go : (q.position < m.count) ⊎ (m.count ≤ q.position)
          → S ⊎ (q.position < m.count → q.new.time < get_or (times_of xs) q.position 0)
      go (inr h) = inr (λ l. absurd (omega (arith, h, l)))
      go (inl h) =
          let yes = not-false _ (right_holds q.position m.count _ _ a.right_blocks h) in
          let lt = ltb-true q.new.time q.right.time
          (not-false _ (right_holds q.position m.count _ _ a.in_time h)) in
          let k : q.position < length bs = omega (arith, h, count) in
          do
            t ← same_time xs bs (needed q (length bs)) q.right second q.position stand (right-needed q (length bs) k) k
                yes (there h)
            inr (λ l. omega (arith, lt, t))

  fits : shown (place_of first).item ≡ tag_at q.position bs
      → (q.position < m.count → shown (place_of second).item ≡ tag_after q.position bs)
      → S ⊎ Fits q.position (times_of xs) q.new.time
  fits here next = do
    l ← left_fits here
    r ← right_fits next
    inr (record {
      within = omega (arith, within, count, times);
      left = l;
      right = λ h. r (omega (arith, h, count, times));
    })
    where
      times : length (times_of xs) ≡ length bs
      times = length-map xs (λ (x : Timed). x.time) ∙ stand-length xs bs stand

-- ALL OF IT
module _ (m : Metadata) (q : Proposal) (first second : List ℕ) (bs : List Block) (xs : List Timed) (l : WithinLimits bs)
    (held : held_side m ≡ metadata_of sha256 bs) (stand : Stand xs bs) (rise : NeverFall (times_of xs))
    (done : verdict_of (filing_rules m q first second) ≡ Ok tt) where
  a : Accepted m q first second
  a = accepted m q first second done

  abbrev C : Type 0
  C = Clash sha256 (filing_messages m q first second) (tree_messages sha256 (root bs))

  count : m.count ≡ length bs
  count = ap (λ (s : Side). s.rank) held ∙ metadata_count sha256 bs

  first-says : C ⊎ Says (held_side m) (insertion q) first [] bs
  first-says =
      clash-within (filing_messages m q first second) (first_hashed m q first second a)
      (model_says m (insertion q) first [] bs l held (inserting m q first second a))

  second_says : C ⊎ (q.position < m.count → shown (place_of second).item ≡ tag_after q.position bs)
  second_says = go (order q.position m.count)
    where
      go : (q.position < m.count) ⊎ (m.count ≤ q.position)
          → C ⊎ (q.position < m.count → shown (place_of second).item ≡ tag_after q.position bs)
      go (inr h) = inr (λ k. absurd (omega (arith, h, k)))
      go (inl h) =
          do
            s ← clash-within (filing_messages m q first second) (second_hashed m q first second a h)
                (model_says m (reading (q.position + 1)) second [] bs l held (reads m q first second a h))
            inr (λ k. let e : q.position + 1 ≡ suc q.position = omega arith in s.1 ∙ ap (λ i. tag_at i bs) e)

  filed : Says (held_side m) (insertion q) first [] bs → Fits q.position (times_of xs) q.new.time
      → Filed m q first second bs xs
  unfolding filed_of
  filed says fit =
      let place = place_only 0 (times_of xs) q.position q.new.time rise fit in
      record {
        times = subst NeverFall (sym (times-put q.position q.new xs))
            (subst (λ i. NeverFall (put_after i q.new.time (times_of xs))) (sym place)
            (put_rises 0 (times_of xs) q.new.time rise (omega arith)));
        stand = stand-put q.position q.new (record { height = q.height; tag = tag_for q.new }) xs bs stand refl;
        place = place;
        metadata = rw done (some_inj says.0);
        tag = rw done says.1;
      }

  kept : C ⊎ (SharedTag (needed q (length bs)) xs ⊎ Filed m q first second bs xs)
  kept = do
    says ← first-says
    next ← second_says
    inr (in_place says next)
    where
      in_place : Says (held_side m) (insertion q) first [] bs
          → (q.position < m.count → shown (place_of second).item ≡ tag_after q.position bs)
          → SharedTag (needed q (length bs)) xs ⊎ Filed m q first second bs xs
      in_place says next = do
        fit ← fits m q first second a bs xs stand count says.1 next
        inr (filed says fit)

pub times_kept : TimesKept
unfolding filed_of
times_kept m q first second bs xs l held stand rise done = kept m q first second bs xs l held stand rise done
