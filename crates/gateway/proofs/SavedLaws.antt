-- Metadata saved and loaded: the bytes as they are written, and load after save and save after load are identities.
-- Assumes nothing.
use Rattle.std.specs.Prelude.{Ok}
use Prim.Native.Nat.{ℕ, ◌≤◌}
use mathlib.Core.Path.{◌≡◌, refl, sym, ap, ap₂, ◌∙◌}
use mathlib.Core.Bool.{true}
use mathlib.Core.List.{List, [], ◌++◌, append-nil}
use native.Mathlib.Omega.{arith}
use lib.Dec.{eqb}
use lib.ListN.{length, length-append}
use borrow.Author.Tests.{eq-eqb, le-leb, le-ltb, leb-true, eqb-true}
use Rattle.skiplist.proofs.Cases.{both}
use Rattle.octets.specs.Numbers.{be, number_at, Bytes}
use Rattle.octets.specs.Runs.{patch, part}
use Rattle.octets.proofs.PatchLaws.{patch_next, patch_all}
use Rattle.octets.proofs.PartLaws.{part-add, part_all, part_middle}
use Rattle.octets.proofs.NumberLaws.{read_middle, write_back}
use Rattle.commands.specs.declared.Metadata.{Metadata}
use Rattle.gateway.specs.declared.saved.Saved.{Saved}
use Rattle.gateway.specs.declared.saved.Loaded.{Loaded}
use Rattle.gateway.specs.Saving.{saved_bytes, save_of, as_stated, load_of, Saves, Loads}

-- the parts written side by side
pub side_by_side : (d : List ℕ) (m : Metadata) {x y z w : List ℕ} → length d ≡ 39 → length m.label ≡ 32
    → x ≡ patch d 0 (be 1 1) → y ≡ patch x 1 (be 2 36) → z ≡ patch y 3 (be 4 m.count) → w ≡ patch z 7 m.label
    → w ≡ saved_bytes m
unfolding saved_bytes
side_by_side d m ld ll ex ey ez ew =
    let all : length d ≡ length (((be 1 1 ++ be 2 36) ++ be 4 m.count) ++ m.label) =
    simp length-append (omega arith) in
    ew ∙ rw (
      ez,
      ey,
      ex,
      patch_next d (be 1 1) (be 2 36) 0 1 (omega arith) (omega arith),
      patch_next d (be 1 1 ++ be 2 36) (be 4 m.count) 0 3 (omega arith) (omega arith),
      patch_next d ((be 1 1 ++ be 2 36) ++ be 4 m.count) m.label 0 7 (omega arith) (omega arith),
      patch_all d (((be 1 1 ++ be 2 36) ++ be 4 m.count) ++ m.label) all,
    )

-- what is written is of the stated form, and reads back
module _ (m : Metadata) (small : m.count ≤ 4096) (long : length m.label ≡ 32) where
  size : length (saved_bytes m) ≡ 39
  unfolding saved_bytes
  size = omega (arith, length-append (be 4 m.count) m.label)

  count_back : number_at 4 (saved_bytes m) 3 ≡ m.count
  unfolding saved_bytes
  count_back = read_middle 4 m.count (be 1 1 ++ be 2 36) m.label 3 refl (omega arith)

  label_back : part (saved_bytes m) 7 32 ≡ m.label
  unfolding saved_bytes
  label_back =
      ap (λ x. part (be 1 1 ++ (be 2 36 ++ (be 4 m.count ++ x))) 7 32) (sym (append-nil m.label))
      ∙ part_middle (be 1 1 ++ (be 2 36 ++ be 4 m.count)) m.label [] 7 32 refl long

  version_back : number_at 1 (saved_bytes m) 0 ≡ 1
  unfolding saved_bytes
  version_back = read_middle 1 1 [] (be 2 36 ++ (be 4 m.count ++ m.label)) 0 refl (omega arith)

  rest_back : number_at 2 (saved_bytes m) 1 ≡ 36
  unfolding saved_bytes
  rest_back = read_middle 2 36 (be 1 1) (be 4 m.count ++ m.label) 1 refl (omega arith)

  pub stated : as_stated (saved_bytes m) ≡ true
  unfolding as_stated
  stated = rw (
    eq-eqb _ 39 size,
    eq-eqb _ 1 version_back,
    eq-eqb _ 36 rest_back,
    count_back,
    le-leb m.count 4096
        small,
  )

  -- LOAD AFTER SAVE
  pub load-save : load_of (save_of m).bytes ≡ record { verdict = Ok tt; metadata = m }
  unfolding save_of load_of
  load-save = rw (le-ltb 4096 m.count small, stated)
      (λ i. record { verdict = Ok tt; metadata = record { count = count_back i; label = label_back i } })

-- WHAT THE STATED FORM SAYS
pub record Stated (s : List ℕ) : Type 0 where
  pub size : length s ≡ 39
  pub version : number_at 1 s 0 ≡ 1
  pub rest : number_at 2 s 1 ≡ 36
  pub count : number_at 4 s 3 ≤ 4096

pub stated_is : (s : List ℕ) → as_stated s ≡ true → Stated s
unfolding as_stated
stated_is s e =
    let a = both (eqb (length s) 39) _ e in
    let b = both (eqb (number_at 1 s 0) 1) _ a.1 in
    let c = both (eqb (number_at 2 s 1) 36) _ b.1 in
    record {
      size = eqb-true _ _ a.0;
      version = eqb-true _ _ b.0;
      rest = eqb-true _ _ c.0;
      count = leb-true _ _ c.1;
    }

-- SAVE AFTER LOAD
module _ (s : List ℕ) (bytes : Bytes s) (done : as_stated s ≡ true) where
  is : Stated s
  is = stated_is s done

  loaded : Metadata
  loaded = record { count = number_at 4 s 3; label = part s 7 32 }

  same_bytes : saved_bytes loaded ≡ s
  unfolding saved_bytes loaded
  same_bytes =
      let e : saved_bytes loaded ≡ part s 0 1 ++ (part s 1 2 ++ (part s 3 4 ++ part s 7 32)) =
      ap₂ ◌++◌ (ap (be 1) (sym is.version) ∙ write_back 1 s 0 bytes (omega (arith, is.size)))
      (ap₂ ◌++◌ (ap (be 2) (sym is.rest) ∙ write_back 2 s 1 bytes (omega (arith, is.size)))
      (ap (λ x. x ++ part s 7 32) (write_back 4 s 3 bytes (omega (arith, is.size))))) in
      e ∙ rw (← (part-add s 3 4 32), ← (part-add s 1 2 36), ← (part-add s 0 1 38))
      (ap (part s 0) (sym is.size) ∙ part_all s)

  pub save-load : save_of (load_of s).metadata ≡ record { verdict = Ok tt; bytes = s }
  unfolding save_of load_of loaded
  save-load = rw (done, le-ltb 4096 (number_at 4 s 3) is.count) (λ i. record { verdict = Ok tt; bytes = same_bytes i })

-- TWO OUTCOMES of a pledge are equal
pub save_unique : (m : Metadata) (r s : Saved) → Saves m r → Saves m s → r ≡ s
save_unique m r s p q = λ i. record {
  verdict = (p.verdict ∙ sym q.verdict) i;
  bytes = (p.bytes ∙ sym q.bytes) i;
}

pub load_unique : (b : List ℕ) (r s : Loaded) → Loads b r → Loads b s → r ≡ s
load_unique b r s p q = λ i. record {
  verdict = (p.verdict ∙ sym q.verdict) i;
  metadata = (p.metadata ∙ sym q.metadata) i;
}
