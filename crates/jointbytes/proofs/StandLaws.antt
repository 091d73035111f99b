-- Pieces that stand whole: where their entries are, and when a shared number is the largest.
-- Assumes nothing.
use Prim.Native.Nat.{ℕ, zero, suc, ◌+◌, ◌-◌, ◌*◌, ◌≤◌, ◌<◌}
use native.Mathlib.Omega.{arith}
use native.Mathlib.Numerals.{add-one}
use mathlib.Core.Path.{◌≡◌, refl, sym, ap, subst, ◌∙◌}
use mathlib.Core.Logic.{◌⊎◌, inl, inr}
use mathlib.Core.Bool.{Bool, true, false, cond, not, ◌&&◌}
use mathlib.Core.List.{List, [], ◌∷◌, ◌++◌}
use lib.Dec.{leb, eqb}
use lib.ListN.{length, get_or, take, drop, length-append, drop_of_length-le, get_or-append}
use lib.Seq.{length-take-le, get_or-append-add, get_or-take, drop-cons}
use borrow.Author.Tests.{leb-true, leb-false, le-leb, lt-leb, eq-eqb, ne_eqb}
use Rattle.octets.specs.Runs.{part, same}
use Rattle.skiplist.proofs.Cases.{order, both}
use Rattle.jointbytes.specs.declared.read.Piece.{Piece}
use Rattle.jointbytes.specs.Spelling.{common}
use Rattle.jointbytes.specs.Reading.{next_of, piece_of, end_of, stop_stands, records_from, spelled_entries}
use Rattle.jointbytes.specs.Working.{holder_of, Stands}
use Rattle.jointbytes.specs.Form.{shares_most, later_fit, joint_fits}
use Rattle.jointbytes.proofs.CommonLaws.{common_left, common_after}
use Rattle.jointbytes.proofs.Rejoined.{Formed, formed, followed, shared_few}

pub stop_fits : (s : List ℕ) (q : Piece) → stop_stands s q ≡ true → end_of q ≤ length s
unfolding stop_stands
stop_fits s q e = leb-true (end_of q) (length s) (both _ _ e).0

pub stands-end : (s : List ℕ) (i : ℕ) → Stands s i → end_of (piece_of s i) ≤ length s
unfolding Stands
stands-end s zero k = stop_fits s (piece_of s 0) k
stands-end s (suc i) k = stop_fits s (piece_of s (suc i)) k.2

-- all before one that stands do
pub stands_before : (s : List ℕ) (b i : ℕ) → b ≤ i → Stands s i → Stands s b
unfolding Stands
stands_before s b zero l k =
    let e : 0 ≡ b = omega arith in
    subst (λ x. Stands s x) e k
stands_before s b (suc i) l k = go (order b (suc i)) (λ a. stands_before s b i a k.0)
  where
    go : (b < suc i) ⊎ (suc i ≤ b) → (b ≤ i → Stands s b) → Stands s b
    go (inl a) f = f (omega arith)
    go (inr a) f =
        let e : suc i ≡ b = omega arith in
        subst (λ x. Stands s x) e k

-- the piece after one before the i-th begins within the bytes
pub stands_next : (s : List ℕ) (b i : ℕ) → b < i → Stands s i → end_of (piece_of s b) + 2 ≤ length s
unfolding Stands
stands_next s b i l k = (stands_before s (suc b) i (omega arith) k).1

pub length-records : (s : List ℕ) (a n : ℕ) → length (records_from s a n) ≡ n
unfolding records_from
length-records s a zero = refl
length-records s a (suc n) = ap suc (length-records s (a + 38) n)

pub shared_first : (s : List ℕ) → (piece_of s 0).shared ≡ 0
unfolding piece_of
shared_first s = refl

-- how many entries a proof has
pub length-spelled : (s : List ℕ) (i : ℕ) → Stands s i → length (spelled_entries s i) ≡ (piece_of s i).shared + (piece_of s i).own
unfolding spelled_entries Stands piece_of
length-spelled s zero k = length-records s (piece_of s 0).from (piece_of s 0).own ∙ omega arith
length-spelled s (suc i) k =
    length-append (take (piece_of s (suc i)).shared (spelled_entries s i)) _
    ∙ rw (length-take-le (piece_of s (suc i)).shared (spelled_entries s i) k.3, length-records s (piece_of s (suc i)).from (piece_of s (suc i)).own) refl

-- WHERE AN ENTRY STANDS: the j-th of the entries xs, in the piece h
pub record Held (s : List ℕ) (xs : List (List ℕ)) (j : ℕ) (h : Piece) : Type 0 where
  pub shares : h.shared ≤ j
  pub owns : j - h.shared < h.own
  pub fits : end_of h ≤ length s
  pub entry : get_or xs j [] ≡ part s (h.from + 38 * (j - h.shared)) 38

get_or-records : (s : List ℕ) (a n j : ℕ) → j < n → get_or (records_from s a n) j [] ≡ part s (a + 38 * j) 38
unfolding records_from
get_or-records s a zero j l = absurd (omega arith)
get_or-records s a (suc n) zero l =
    let e : a + 38 * 0 ≡ a = omega arith in
    rw e refl
get_or-records s a (suc n) (suc j) l =
    let e : a + 38 * suc j ≡ (a + 38) + 38 * j = omega (arith, add-one j) in
    rw e (get_or-records s (a + 38) n j (omega arith))

-- in the last piece, after c entries of others
own-held : (s : List ℕ) (xs : List (List ℕ)) (q : Piece) (j : ℕ) → length xs ≡ q.shared → end_of q ≤ length s → q.shared ≤ j
    → j < q.shared + q.own → Held s (xs ++ records_from s q.from q.own) j q
own-held s xs q j n f l m =
    let e : j ≡ length xs + (j - q.shared) = omega arith in
    let o : j - q.shared < q.own = omega arith in
    record {
      shares = l;
      owns = o;
      fits = f;
      entry = ap (λ x. get_or (xs ++ records_from s q.from q.own) x []) e
          ∙ get_or-append-add xs (records_from s q.from q.own) (j - q.shared) []
          ∙ get_or-records s q.from q.own (j - q.shared) o;
    }

-- in a piece before
before_held : (s : List ℕ) (xs ys : List (List ℕ)) (h : Piece) (c j : ℕ) → c ≤ length xs → j < c → Held s xs j h
    → Held s (take c xs ++ ys) j h
before_held s xs ys h c j l m k =
    record {
      shares = k.shares;
      owns = k.owns;
      fits = k.fits;
      entry = get_or-append (take c xs) ys [] j (omega (arith, length-take-le c xs l)) ∙ get_or-take c xs j [] m ∙ k.entry;
    }

pub held : (s : List ℕ) (i j : ℕ) → Stands s i → j < length (spelled_entries s i) → Held s (spelled_entries s i) j (holder_of s i j)
unfolding holder_of spelled_entries Stands
held s zero j k l =
    let z = shared_first s in
    let n = length-records s (piece_of s 0).from (piece_of s 0).own in
    own-held s [] (piece_of s 0) j (sym z) (stop_fits s (piece_of s 0) k) (omega (arith, z)) (omega (arith, z, n))
held s (suc i) j k l = go (leb (piece_of s (suc i)).shared j) refl (held s i j k.0)
  where
    q : Piece
    q = piece_of s (suc i)

    n : length (take q.shared (spelled_entries s i)) ≡ q.shared
    n = length-take-le q.shared (spelled_entries s i) k.3

    go : (t : Bool) → leb q.shared j ≡ t
        → (j < length (spelled_entries s i) → Held s (spelled_entries s i) j (holder_of s i j))
        → Held s (take q.shared (spelled_entries s i) ++ records_from s q.from q.own) j (cond t q (holder_of s i j))
    go true e h =
        let m = length-append (take q.shared (spelled_entries s i)) (records_from s q.from q.own) in
        let r = length-records s q.from q.own in
        own-held s (take q.shared (spelled_entries s i)) q j n (stop_fits s q k.2) (leb-true q.shared j e)
        (omega (arith, l, m, n, r))
    go false e h =
        let a = leb-false q.shared j e in
        before_held s (spelled_entries s i) (records_from s q.from q.own) (holder_of s i j) q.shared j k.3 a
        (h (omega (arith, a, k.3)))

-- WHEN A SHARED NUMBER IS THE LARGEST
module _ (s : List ℕ) (i : ℕ) where
  abbrev E : List (List ℕ)
  E = spelled_entries s i

  abbrev q : Piece
  q = piece_of s (suc i)

  pub most_over : length E < q.shared → shares_most s i ≡ false
  unfolding shares_most
  most_over l =
      ne_eqb q.shared (common E (spelled_entries s (suc i)))
      (λ e. absurd (omega (arith, l, e, common_left E (spelled_entries s (suc i)))))

  most_is : q.shared ≤ length E → shares_most s i ≡ eqb q.shared (q.shared + common (drop q.shared E) (records_from s q.from q.own))
  unfolding shares_most spelled_entries
  most_is l = ap (λ x. eqb q.shared x) (common_after E (records_from s q.from q.own) q.shared l)

  pub most_all : length E ≡ q.shared → shares_most s i ≡ true
  unfolding common
  most_all l =
      most_is (omega arith)
      ∙ rw (drop_of_length-le E {i = q.shared} (omega arith)) (eq-eqb q.shared (q.shared + 0) (omega arith))

  pub most_none : q.shared ≤ length E → q.own ≡ 0 → shares_most s i ≡ true
  unfolding common records_from
  most_none l z = most_is l ∙ rw (z, none (drop q.shared E)) (eq-eqb q.shared (q.shared + 0) (omega arith))
    where
      none : (xs : List (List ℕ)) → common xs [] ≡ 0
      none [] = refl
      none (x ∷ xs) = refl

  pub most_next : q.shared < length E → 1 ≤ q.own → shares_most s i ≡ not (same (get_or E q.shared []) (part s q.from 38))
  unfolding common records_from
  most_next l o = most_is (omega arith) ∙ rw (drop-cons E q.shared [] l) (go q.own o)
    where
      end : (t : Bool) (n : ℕ) → eqb q.shared (q.shared + cond t (suc n) 0) ≡ not t
      end true n = ne_eqb q.shared (q.shared + suc n) (λ e. absurd (omega (arith, e)))
      end false n = eq-eqb q.shared (q.shared + 0) (omega arith)

      go : (n : ℕ) → 1 ≤ n
          → eqb q.shared (q.shared + common (get_or E q.shared [] ∷ drop (suc q.shared) E) (records_from s q.from n))
          ≡ not (same (get_or E q.shared []) (part s q.from 38))
      go zero k = absurd (omega arith)
      go (suc n) k =
          end (same (get_or E q.shared []) (part s q.from 38))
          (common (drop (suc q.shared) E) (records_from s (q.from + 38) n))

-- THE CODE'S STEPS: the next piece, the holder among one more, and the tests of a shared number
pub piece-next : (s : List ℕ) (b : ℕ) {q r : Piece} → q ≡ piece_of s b → r ≡ next_of s q → r ≡ piece_of s (b + 1)
unfolding piece_of
piece-next s b e f = rw add-one (f ∙ ap (next_of s) e)

pub holder_next : (s : List ℕ) (b j : ℕ) {h q r : Piece} → h ≡ holder_of s b j → q ≡ piece_of s (b + 1)
    → r ≡ cond (leb q.shared j) q h → r ≡ holder_of s (b + 1) j
unfolding holder_of
holder_next s b j {q = q} e f g =
    let d : q ≡ piece_of s (suc b) = f ∙ rw add-one in
    rw add-one (g ∙ rw (d, e))

module _ (s : List ℕ) (i k : ℕ) (q : Piece) (n : k ≡ length (spelled_entries s i)) (e : q ≡ piece_of s (i + 1)) where
  is_next : q ≡ piece_of s (suc i)
  is_next = e ∙ rw add-one

  pub test_over : k < q.shared → false ≡ shares_most s i
  test_over l = sym (most_over s i (omega (arith, l, n, ap (λ x. x.shared) is_next)))

  pub test_all : k ≡ q.shared → true ≡ shares_most s i
  test_all l = sym (most_all s i (sym n ∙ l ∙ ap (λ x. x.shared) is_next))

  pub test_none : q.shared ≤ k → q.own ≡ 0 → true ≡ shares_most s i
  test_none l z =
      sym (most_none s i (omega (arith, l, n, ap (λ x. x.shared) is_next)) (sym (ap (λ x. x.own) is_next) ∙ z))

  pub test_held : {h : Piece} → Stands s i → q.shared ≤ k → (k ≡ q.shared → ⊥) → h ≡ holder_of s i q.shared
      → Held s (spelled_entries s i) q.shared h
  test_held t l m d = rw d (held s i q.shared t (omega (arith, l, m, n)))

  pub test_next : {h : Piece} {r : Bool} → Held s (spelled_entries s i) q.shared h → q.shared ≤ k → (k ≡ q.shared → ⊥)
      → (q.own ≡ 0 → ⊥) → r ≡ same (part s (h.from + 38 * (q.shared - h.shared)) 38) (part s q.from 38)
      → not r ≡ shares_most s i
  test_next {h = h} v l m o f =
      let c = ap (λ x. x.shared) is_next in
      let w = ap (λ x. x.own) is_next in
      ap not f
      ∙ sym
      (most_next s i (omega (arith, l, m, n, c)) (omega (arith, o, w))
      ∙ rw (sym is_next, v.entry))

-- THE PIECES AFTER THE FIRST, once the j-th, q, is found good: k entries are spelled out of it, and what is left decides
pub record Reached (s : List ℕ) (m j : ℕ) (q : Piece) (k : ℕ) : Type 0 where
  pub stands : Stands s j
  pub piece : q ≡ piece_of s j
  pub count : k ≡ length (spelled_entries s j)
  pub left : later_fit s j (m - 1 - j) ≡ later_fit s 0 (m - 1)

pub reached_first : (s : List ℕ) (m : ℕ) {q : Piece} → Stands s 0 → q ≡ piece_of s 0 → Reached s m (1 - 1) q q.own
reached_first s m {q = q} t e =
    let z : m - 1 - 0 ≡ m - 1 = omega arith in
    record {
      stands = t;
      piece = e;
      count = ap (λ x. x.own) e ∙ sym (length-spelled s 0 t ∙ omega (arith, shared_first s));
      left = rw z;
    }

module _ (s : List ℕ) (m i : ℕ) {q : Piece} {k : ℕ} (t : 1 ≤ i) (r : Reached s m (i - 1) q k) where
  abbrev j : ℕ
  j = i - 1

  abbrev next : Piece
  next = piece_of s (suc j)

  pub reached_end : Stands s j → end_of q ≤ length s
  reached_end u = subst (λ x. end_of x ≤ length s) (sym r.piece) (stands-end s j u)

  go_on : i < m → later_fit s 0 (m - 1)
      ≡ leb (end_of (piece_of s j) + 2) (length s)
      && (stop_stands s next && (shares_most s j && later_fit s (suc j) (m - 1 - suc j)))
  unfolding later_fit
  go_on l =
      let e : m - 1 - j ≡ suc (m - 1 - suc j) = omega (arith, l, t) in
      sym (sym (ap (later_fit s j) e) ∙ r.left)

  module _ (l : i < m) where
    pub short : length s < end_of q + 2 → false ≡ later_fit s 0 (m - 1)
    short h =
        sym (go_on l ∙ rw (lt-leb (end_of (piece_of s j) + 2) (length s)
        (subst (λ x. length s < end_of x + 2) r.piece h)))

    is_piece : {p : Piece} → p ≡ next_of s q → p ≡ next
    is_piece e = piece-next s j r.piece e ∙ rw add-one

    pub is_at : {p : Piece} → p ≡ next_of s q → p ≡ piece_of s (i - 1 + 1)
    is_at e = piece-next s j r.piece e

    module _ {p : Piece} (h : end_of q + 2 ≤ length s) (e : p ≡ next_of s q) where
      fits : leb (end_of (piece_of s j) + 2) (length s) ≡ true
      fits = le-leb (end_of (piece_of s j) + 2) (length s) (subst (λ x. end_of x + 2 ≤ length s) r.piece h)

      pub broken : {b : Bool} → b ≡ stop_stands s p → b ≡ false → false ≡ later_fit s 0 (m - 1)
      broken f g = sym (go_on l ∙ rw (fits, sym (ap (stop_stands s) (is_piece e)) ∙ sym f ∙ g))

      module _ {b : Bool} (f : b ≡ stop_stands s p) (g : b ≡ true) where
        stops : stop_stands s next ≡ true
        stops = sym (ap (stop_stands s) (is_piece e)) ∙ sym f ∙ g

        pub fewer : {d : Bool} → d ≡ shares_most s j → d ≡ false → false ≡ later_fit s 0 (m - 1)
        fewer x y = sym (go_on l ∙ rw (fits, stops, sym x ∙ y))

        stand : {d : Bool} → d ≡ shares_most s j → d ≡ true → Stands s (suc j)
        unfolding Stands
        stand x y = (
          r.stands,
          subst (λ z. end_of z + 2 ≤ length s) r.piece h,
          stops,
          go (order (length (spelled_entries s j)) next.shared),
        )
          where
            go : (length (spelled_entries s j) < next.shared) ⊎ (next.shared ≤ length (spelled_entries s j))
                → next.shared ≤ length (spelled_entries s j)
            go (inr a) = a
            go (inl a) =
                let w : true ≡ false = sym (sym x ∙ y) ∙ most_over s j a in
                let z : ◌≡◌ {A = ℕ} 0 1 = cc in
                absurd (omega arith)

        pub onward : {d : Bool} → d ≡ shares_most s j → d ≡ true → Reached s m (i + 1 - 1) p (p.shared + p.own)
        onward x y =
            let n : i + 1 - 1 ≡ suc j = omega (arith, t) in
            let u = stand x y in
            subst (λ z. Reached s m z p (p.shared + p.own)) (sym n) (record {
              stands = u;
              piece = is_piece e;
              count = ap (λ z. z.shared + z.own) (is_piece e) ∙ sym (length-spelled s (suc j) u);
              left = sym (go_on l ∙ rw (fits, stops, sym x ∙ y));
            })

  pub reached_all : m ≤ i → eqb (end_of q) (length s) ≡ later_fit s 0 (m - 1)
  unfolding later_fit
  reached_all l =
      let e : m - 1 - j ≡ 0 = omega (arith, l, t) in
      ap (λ x. eqb (end_of x) (length s)) r.piece ∙ sym (ap (later_fit s j) e) ∙ r.left

-- IN A JOINT PROOF OF GOOD FORM every piece stands
pub fits_stand : (m : ℕ) (s : List ℕ) → joint_fits m s ≡ true → (i : ℕ) → i < m → Stands s i
unfolding Stands
fits_stand m s e i l = (both_true i l).0
  where
    f : Formed m s
    f = formed m s e

    both_true : (i : ℕ) → i < m → Stands s i × (later_fit s i (m - 1 - i) ≡ true)
    both_true zero l =
        let z : m - 1 - 0 ≡ m - 1 = omega arith in
        (f.first, rw z f.later)
    both_true (suc i) l =
        let h = both_true i (omega arith) in
        let n : m - 1 - i ≡ suc (m - 1 - suc i) = omega (arith, l) in
        let w = followed s i (m - 1 - suc i) (sym (ap (later_fit s i) n) ∙ h.1) in
        ((h.0, w.room, w.stands, shared_few s i (m - 1 - suc i) w), w.later)
