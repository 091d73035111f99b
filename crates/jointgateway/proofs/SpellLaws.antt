-- Proofs spelled out in one work buffer, each over the one before.
-- Assumes nothing.
use Prim.Native.Nat.{ℕ, zero, suc, ◌+◌, ◌-◌, ◌*◌, ◌≤◌, ◌<◌}
use native.Mathlib.Omega.{arith}
use native.Mathlib.Numerals.{add-one}
use mathlib.Core.Path.{◌≡◌, refl, sym, ap, ap₂, subst, ◌∙◌}
use mathlib.Core.List.{List, [], ◌∷◌, ◌++◌, append_assoc}
use lib.ListN.{length, take, drop, length-append, length-drop, take-append-drop}
use lib.Seq.{length-take-le, take_at, drop_at, take-append-le, drop-append-le}
use borrow.Author.Tests.{lt-leb, le-leb}
use Rattle.octets.proofs.RunLaws.{same-true}
use Rattle.labels.specs.declared.Side.{Side}
use Rattle.octets.specs.Runs.{patch, part}
use Rattle.octets.proofs.PatchLaws.{patch_next, length-patch, drop-patch}
use Rattle.octets.proofs.PartLaws.{part_none, part-add, part-patch, part_middle, length-part}
use Rattle.octets.proofs.KeepLaws.{keep_before}
use Rattle.proofbytes.specs.Writing.{header_bytes}
use Rattle.proofbytes.specs.Reading.{at, Sized, entry_of, entries_from, count_of}
use Rattle.proofbytes.proofs.ReadingLaws.{fields_same}
use Rattle.proofbytes.specs.Form.{header_fits, well_formed}
use Rattle.proofbytes.proofs.WriteLaws.{length-header}
use Rattle.jointbytes.specs.declared.read.Piece.{Piece}
use Rattle.jointbytes.specs.Spelling.{joined, spelled}
use Rattle.jointbytes.specs.Reading.{piece_of, stop_at, records_from, spelled_entries}
use Rattle.jointbytes.specs.Working.{Stands}
use Rattle.jointbytes.proofs.CommonLaws.{AllLong, joined-append, length-joined}
use Rattle.jointbytes.proofs.Rejoined.{joined-records}
use Rattle.jointbytes.proofs.StandLaws.{stands-end, stop_fits, length-records, length-spelled, shared_first}
use Rattle.commands.specs.declared.Metadata.{Metadata}
use Rattle.std.specs.Prelude.{Ok, Err, min}
use Rattle.gateway.specs.declared.examine.Fault.TheVariants.{Misread}
use Rattle.std.proofs.Math.Nat.{min-eq_left}
use Rattle.gateway.specs.Climbing.{climbed, stop_leaf, below_of}
use Rattle.gateway.proofs.Screens.{finding-fine, rooted_is}
use Rattle.jointgateway.proofs.AgainLaws.{climb_join}
use Rattle.gateway.specs.Working.{finding_of}
use Rattle.jointgateway.specs.Joint.{proof_at}
use Rattle.jointgateway.specs.Working.{Spelled, Before, Kept, KeptIn}

-- EVERY RECORD HAS ITS LENGTH
records_long : (s : List ℕ) (a n : ℕ) → a + 38 * n ≤ length s → AllLong (records_from s a n)
unfolding records_from
records_long s a zero l = tt
records_long s a (suc n) l =
    let e : a + 38 * suc n ≡ a + 38 + 38 * n = omega arith in
    (length-part s a 38 (omega (arith, l, e)), records_long s (a + 38) n (omega (arith, l, e)))

long_append : (xs ys : List (List ℕ)) → AllLong xs → AllLong ys → AllLong (xs ++ ys)
long_append [] ys k l = l
long_append (x ∷ xs) ys k l = (k.0, long_append xs ys k.1 l)

long_take : (n : ℕ) (xs : List (List ℕ)) → AllLong xs → AllLong (take n xs)
long_take zero xs k = tt
long_take (suc n) [] k = tt
long_take (suc n) (x ∷ xs) k = (k.0, long_take n xs k.1)

spelled_long : (s : List ℕ) (i : ℕ) → Stands s i → AllLong (spelled_entries s i)
unfolding Stands spelled_entries
spelled_long s zero k =
    records_long s (piece_of s 0).from (piece_of s 0).own (omega (arith, stop_fits s (piece_of s 0) k))
spelled_long s (suc i) k =
    let q = piece_of s (suc i) in
    long_append (take q.shared (spelled_entries s i)) (records_from s q.from q.own)
    (long_take q.shared (spelled_entries s i) (spelled_long s i k.0))
    (records_long s q.from q.own (omega (arith, stop_fits s q k.2)))

pub length-proof : (s : List ℕ) (i : ℕ) → Stands s i → length (proof_at s i) ≡ 77 + 38 * length (spelled_entries s i)
length-proof s i k =
    let E = spelled_entries s i in
    let stop = part s (stop_at (piece_of s i)) 74 in
    let a = length-append (header_bytes (length E)) (joined E ++ stop) in
    let b = length-append (joined E) stop in
    let c = length-joined E (spelled_long s i k) in
    let d : length stop ≡ 74 = length-part s (stop_at (piece_of s i)) 74 (omega (arith, stands-end s i k)) in
    omega (arith, a, b, c, d, length-header (length E))

-- WRITTEN OVER THE ONE BEFORE: the header X, c entries kept, and Z
written_over : (w X Z : List ℕ) (c : ℕ) → length X ≡ 3 → 3 + 38 * c ≤ length w
    → patch (patch w 0 X) (3 + 38 * c) Z ≡ patch w 0 (X ++ (part w 3 (38 * c) ++ Z))
unfolding part
written_over w X Z c e l =
    let n : length (patch w 0 X) ≡ length w = length-patch w X 0 (omega (arith, e, l)) in
    let d : part (patch w 0 X) 3 (38 * c) ≡ part w 3 (38 * c) =
    ap (take (38 * c)) (drop-patch w X 0 3 (omega (arith, e)) (omega (arith, l))) in
    keep_before (patch w 0 X) Z 3 (38 * c) (3 + 38 * c) refl (omega (arith, n, l))
    ∙ ap (λ y. patch (patch w 0 X) 3 (y ++ Z)) d
    ∙ patch_next w X (part w 3 (38 * c) ++ Z) 0 3 (omega (arith, e)) (omega (arith, l))

-- a proof from entries before it and a piece
proof_is : (s : List ℕ) (front : List (List ℕ)) (a n : ℕ)
    → spelled (record { entries = front ++ records_from s a n; stop = part s (a + 38 * n) 74 })
    ≡ header_bytes (length front + n) ++ (joined front ++ part s a (38 * n + 74))
proof_is s front a n =
    let k : length (front ++ records_from s a n) ≡ length front + n = length-append front (records_from s a n) ∙ ap (λ x. length front + x) (length-records s a n) in
    ap₂ (λ x y. header_bytes x ++ y) k
    (ap (λ x. x ++ part s (a + 38 * n) 74) (joined-append front (records_from s a n) ∙ ap (λ x. joined front ++ x) (joined-records s n a))
    ∙ append_assoc (joined front) (part s a (38 * n)) (part s (a + 38 * n) 74)
    ∙ ap (λ x. joined front ++ x) (sym (part-add s a (38 * n) 74)))

spelled_whole : (w s : List ℕ) (i : ℕ) → Spelled w s i → w ≡ proof_at s i ++ drop (length (proof_at s i)) w
unfolding part
spelled_whole w s i z =
    sym (take-append-drop (length (proof_at s i)) w) ∙ ap (λ x. x ++ drop (length (proof_at s i)) w) z.bytes

part_first : (xs ys : List ℕ) (a k : ℕ) → a + k ≤ length xs → part (xs ++ ys) a k ≡ part xs a k
unfolding part
part_first xs ys a k l =
    ap (take k) (drop-append-le a xs ys (omega (arith, l)))
    ∙ take-append-le k (drop a xs) ys (omega (arith, l, length-drop a xs))

-- c entries of a proof, and of one that is spelled out
front_is : (s : List ℕ) (i c : ℕ) → Stands s i → c ≤ length (spelled_entries s i)
    → part (proof_at s i) 3 (38 * c) ≡ joined (take c (spelled_entries s i))
front_is s i c t l =
    let E = spelled_entries s i in
    let stop = part s (stop_at (piece_of s i)) 74 in
    let m : length (joined (take c E)) ≡ 38 * c =
    length-joined (take c E) (long_take c E (spelled_long s i t)) ∙ ap (λ x. 38 * x) (length-take-le c E l) in
    ap (λ x. part (header_bytes (length E) ++ (x ++ stop)) 3 (38 * c))
    (sym (ap joined (take-append-drop c E)) ∙ joined-append (take c E) (drop c E))
    ∙ ap (λ x. part (header_bytes (length E) ++ x) 3 (38 * c)) (append_assoc (joined (take c E)) (joined (drop c E)) stop)
    ∙ part_middle (header_bytes (length E)) (joined (take c E)) (joined (drop c E) ++ stop) 3 (38 * c)
    (length-header (length E)) m

kept_front : (w s : List ℕ) (i c : ℕ) → Stands s i → Spelled w s i → c ≤ length (spelled_entries s i)
    → part w 3 (38 * c) ≡ joined (take c (spelled_entries s i))
kept_front w s i c t k l =
    ap (λ x. part x 3 (38 * c)) (spelled_whole w s i k)
    ∙ part_first (proof_at s i) (drop (length (proof_at s i)) w) 3 (38 * c) (omega (arith, length-proof s i t, l))
    ∙ front_is s i c t l

-- a work buffer over which the i-th proof is spelled out
spelled_over : (w s : List ℕ) (i : ℕ) (front : List (List ℕ)) (q : Piece) {v : List ℕ} → length w ≡ 7677 → Stands s i → q ≡ piece_of s i
    → spelled_entries s i ≡ front ++ records_from s q.from q.own → length front ≡ q.shared
    → part w 3 (38 * q.shared) ≡ joined front → q.shared + q.own ≤ 200
    → v ≡ patch (patch w 0 (header_bytes (q.shared + q.own))) (3 + 38 * q.shared) (part s q.from (38 * q.own + 74))
    → Spelled v s i
spelled_over w s i front q {v} n t e f g h l d =
    let P = proof_at s i in
    let b : P ≡ header_bytes (q.shared + q.own) ++ (part w 3 (38 * q.shared) ++ part s q.from (38 * q.own + 74)) =
    ap₂ (λ x y. spelled (record { entries = x; stop = part s y 74 })) f (sym (ap stop_at e))
    ∙ proof_is s front q.from q.own
    ∙ ap₂ (λ x y. header_bytes x ++ (y ++ part s q.from (38 * q.own + 74))) (ap (λ x. x + q.own) g) (sym h) in
    let c : length (spelled_entries s i) ≡ q.shared + q.own =
    length-spelled s i t ∙ sym (ap (λ x. x.shared + x.own) e) in
    let a : v ≡ patch w 0 P =
    d ∙ written_over w (header_bytes (q.shared + q.own)) (part s q.from (38 * q.own + 74)) q.shared
    (length-header (q.shared + q.own)) (omega (arith, l, n)) ∙ ap (patch w 0) (sym b) in
    let m : length P ≡ 77 + 38 * length (spelled_entries s i) = length-proof s i t in
    record {
      size = ap length a ∙ length-patch w P 0 (omega (arith, m, c, l, n)) ∙ n;
      few = omega (arith, c, l);
      bytes = ap (λ x. part x 0 (length P)) a ∙ part-patch w P 0 (length P) (omega arith) refl;
    }

pub spelled_out : (w s : List ℕ) (i : ℕ) (q : Piece) {v : List ℕ} → Before w s i → Stands s i → q ≡ piece_of s i
    → q.shared + q.own ≤ 200
    → v ≡ patch (patch w 0 (header_bytes (q.shared + q.own))) (3 + 38 * q.shared) (part s q.from (38 * q.own + 74))
    → Spelled v s i
unfolding spelled_entries Stands joined
spelled_out w s zero q b t e l d =
    let z : q.shared ≡ 0 = ap (λ x. x.shared) e ∙ shared_first s in
    let y : 38 * q.shared ≡ 0 = omega (arith, z) in
    spelled_over w s 0 [] q b t e (sym (ap (λ x. records_from s x.from x.own) e)) (sym z)
    (ap (part w 3) y ∙ part_none w 3) l d
spelled_out w s (suc i) q b t e l d =
    let c : q.shared ≤ length (spelled_entries s i) = subst (λ x. x.shared ≤ length (spelled_entries s i)) (sym e) t.3 in
    spelled_over w s (suc i) (take q.shared (spelled_entries s i)) q b.size t e
    (sym (ap (λ x. take x.shared (spelled_entries s i) ++ records_from s x.from x.own) e))
    (length-take-le q.shared (spelled_entries s i) c) (kept_front w s i q.shared t.0 b c) l d

pub before_size : (w s : List ℕ) (i : ℕ) → Before w s i → length w ≡ 7677
before_size w s zero b = b
before_size w s (suc i) b = b.size

-- TOO LONG FOR A PROOF
pub too_long : (s : List ℕ) (i p : ℕ) (m : Metadata) → Stands s i → 200 < length (spelled_entries s i)
    → finding_of (proof_at s i) p m ≡ Err Misread
unfolding finding_of well_formed header_fits
too_long s i p m t l =
    let n = length-proof s i t in
    rw (
      le-leb 77 (length (proof_at s i)) (omega (arith, n)),
      lt-leb (length (proof_at s i)) 7677 (omega (arith, n, l)),
    )

-- how many entries there are, by the piece
pub count_is : (s : List ℕ) (i : ℕ) {q : Piece} → Stands s i → q ≡ piece_of s i → length (spelled_entries s i) ≡ q.shared + q.own
count_is s i t e = length-spelled s i t ∙ sym (ap (λ x. x.shared + x.own) e)

-- A SPELLED-OUT PROOF has bytes for its entries and its stop
pub sized : (s : List ℕ) (i : ℕ) → Stands s i → length (spelled_entries s i) ≤ 200 → Sized (proof_at s i)
sized s i t l =
    let n = length-proof s i t in
    record { few = omega (arith, n, l); long = omega (arith, n) }

pub count_spelled : (s : List ℕ) (i : ℕ) → Stands s i → count_of (proof_at s i) ≡ length (spelled_entries s i)
count_spelled s i t =
    let n = length-proof s i t in
    omega (arith, n)

-- THE SHARED ENTRIES of a proof and the one before are the same
entries_same : (a b : List ℕ) (n i : ℕ) → at (i + n) ≤ length a → at (i + n) ≤ length b
    → part a (at i) (38 * n) ≡ part b (at i) (38 * n) → entries_from a i n ≡ entries_from b i n
unfolding entries_from
entries_same a b zero i la lb e = refl
entries_same a b (suc n) i la lb e =
    let z : 38 * suc n ≡ 38 + 38 * n = omega (arith, add-one n) in
    let y : at i + 38 ≡ at (suc i) = omega (arith, add-one i) in
    let w : i + suc n ≡ suc i + n = omega (arith, add-one n, add-one i) in
    let ua : at i + 38 ≤ length a = omega (arith, la, add-one n) in
    let ub : at i + 38 ≤ length b = omega (arith, lb, add-one n) in
    let d : part a (at i) 38 ++ part a (at i + 38) (38 * n) ≡ part b (at i) 38 ++ part b (at i + 38) (38 * n) =
    sym (ap (part a (at i)) z ∙ part-add a (at i) 38 (38 * n)) ∙ e ∙ (ap (part b (at i)) z ∙ part-add b (at i) 38 (38 * n)) in
    let la' = length-part a (at i) 38 ua in
    let lb' = length-part b (at i) 38 ub in
    let f : part a (at i) 38 ≡ part b (at i) 38 =
    sym (take_at (part a (at i) 38) (part a (at i + 38) (38 * n)) 38 la') ∙ ap (take 38) d ∙ take_at (part b (at i) 38) (part b (at i + 38) (38 * n)) 38 lb' in
    let g : part a (at (suc i)) (38 * n) ≡ part b (at (suc i)) (38 * n) =
    ap (λ x. part a x (38 * n)) (sym y)
    ∙ sym (drop_at (part a (at i) 38) (part a (at i + 38) (38 * n)) 38 la') ∙ ap (drop 38) d ∙ drop_at (part b (at i) 38) (part b (at i + 38) (38 * n)) 38 lb'
    ∙ ap (λ x. part b x (38 * n)) y in
    ap₂ (λ x xs. entry_of x ∷ xs) (fields_same a b i ua ub f)
    (entries_same a b n (suc i) (subst (λ x. at x ≤ length a) w la) (subst (λ x. at x ≤ length b) w lb) g)

shared_same : (s : List ℕ) (i : ℕ) → Stands s (suc i)
    → entries_from (proof_at s (suc i)) 0 (piece_of s (suc i)).shared ≡ entries_from (proof_at s i) 0 (piece_of s (suc i)).shared
unfolding spelled_entries Stands
shared_same s i t =
    let q = piece_of s (suc i) in
    let c = q.shared in
    let E = spelled_entries s i in
    let n = length-proof s (suc i) t in
    let o = length-proof s i t.0 in
    let k : length (spelled_entries s (suc i)) ≡ c + q.own = length-spelled s (suc i) t in
    let f : take c (spelled_entries s (suc i)) ≡ take c E =
    take_at (take c E) (records_from s q.from q.own) c (length-take-le c E t.3) in
    entries_same (proof_at s (suc i)) (proof_at s i) c 0 (omega (arith, n, k)) (omega (arith, o, t.3))
    (front_is s (suc i) c t (omega (arith, k)) ∙ ap joined f ∙ sym (front_is s i c t.0 t.3))

-- WHAT IS KEPT
pub kept_in : (s : List ℕ) (m : Metadata) (i : ℕ) (q : Piece) (t : Side) → Stands s i → q ≡ piece_of s i → Kept s m i t
    → KeptIn (proof_at s i) m i q.shared t
kept_in s m zero q t st e k = tt
kept_in s m (suc i) q t st e k =
    let n = count_spelled s (suc i) st in
    let l = length-spelled s (suc i) st in
    let c = ap (λ x. x.shared) e in
    (omega (arith, n, l, c), ap (λ x. (climbed (entries_from (proof_at s (suc i)) 0 x) t).label) c ∙ k)

-- a proof that passed leads to the label held, from what it recomputes below its first c entries
fine_kept : (w : List ℕ) (p c : ℕ) (m : Metadata) → m.count ≤ 4096 → finding_of w p m ≡ Ok tt → c ≤ count_of w
    → (climbed (entries_from w 0 c) (below_of w c)).label ≡ m.label
unfolding below_of
fine_kept w p c m h f l =
    let d = finding-fine w p m f in
    let z : min c (count_of w) ≡ c = min-eq_left {n = c} {m = count_of w} l in
    let y : c - 0 ≡ c = omega arith in
    let x : count_of w - 0 ≡ count_of w = omega arith in
    ap (λ n. (climbed (entries_from w 0 c) (climbed (entries_from w n (count_of w - n)) (stop_leaf w (count_of w)))).label) z
    ∙ ap (λ n. (climbed (entries_from w 0 n) (climbed (entries_from w c (count_of w - c)) (stop_leaf w (count_of w)))).label) (sym y)
    ∙ ap (λ t. t.label) (climb_join w 0 c (count_of w) (stop_leaf w (count_of w)) (omega arith) l)
    ∙ ap (λ n. (climbed (entries_from w 0 n) (stop_leaf w (count_of w))).label) x
    ∙ same-true _ m.label (rooted_is w m d.counted h ∙ d.labelled)

pub kept_next : (s : List ℕ) (m : Metadata) (i p c : ℕ) (t : Side) → Stands s (suc i) → m.count ≤ 4096
    → finding_of (proof_at s i) p m ≡ Ok tt → c ≡ (piece_of s (suc i)).shared → t ≡ below_of (proof_at s i) c → Kept s m (suc i) t
unfolding Stands
kept_next s m i p c t st h f e d =
    let n = count_spelled s i st.0 in
    let q = (piece_of s (suc i)).shared in
    ap (λ x. (climbed x t).label) (shared_same s i st)
    ∙ ap (λ x. (climbed (entries_from (proof_at s i) 0 q) x).label) (d ∙ ap (below_of (proof_at s i)) e)
    ∙ fine_kept (proof_at s i) p q m h f (omega (arith, n, st.3))
