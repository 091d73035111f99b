-- What check answers: the rank and label of the image's tree, made in one pass, are the row's metadata.
-- Assumes nothing.
use Rattle.std.specs.Prelude.{Ok, Err}
use Prim.Native.Nat.{ℕ, ◌-◌, ◌^◌, ◌<◌}
use native.Mathlib.Omega.{arith}
use mathlib.Core.Path.{◌≡◌, ap, ◌∙◌}
use mathlib.Core.Bool.{true, false}
use mathlib.Core.List.{List}
use Rattle.refusals.specs.declared.Refusal.TheVariants.{BadImage}
use Rattle.sha256.specs.Hash.{sha256}
use Rattle.skiplist.specs.Tree.{rank}
use Rattle.skiplist.specs.Sides.{side_of}
use Rattle.skiplist.specs.Label.{Side, sides}
use Rattle.skiplist.specs.Blocks.{head, row, root}
use Rattle.skiplist.proofs.GoodTree.{tree_full}
use Rattle.skiplist.proofs.WayLaws.{root-rank}
use Rattle.commands.specs.declared.Metadata.{Metadata}
use Rattle.commands.specs.Meaning.{no_metadata}
use Rattle.labels.specs.declared.Side as code
use Rattle.labels.specs.CodeSides.{to_side, coded}
use Rattle.labels.proofs.CodeLaws.{code_side}
use Rattle.archive.specs.Reading.{count_of, blocks_of, sound}
use Rattle.archive.proofs.RecordLaws.{length-blocks}
use Rattle.store.specs.Answers.{check_verdict, check_of}
use Rattle.store.specs.Passes.{tree_at}
use Rattle.store.specs.Pledges.{Checks}
use Rattle.store.proofs.RunLaws.{few}
use Rattle.store.proofs.EntryLaws.{full_side}

pub check_refused : (b : List ℕ) → sound b ≡ false → Checks b
    (record { verdict = Err BadImage; metadata = no_metadata })
unfolding check_of check_verdict
check_refused b e = record { verdict = rw e; metadata = rw e }

pub check_done : (b : List ℕ) (t : code.Side) → sound b ≡ true → t ≡ side_of coded (tree_at b 0 (count_of b))
    → Checks b (record { verdict = Ok tt; metadata = record { count = t.rank; label = t.label } })
unfolding check_of check_verdict
check_done b t good et =
    let u = root (blocks_of b) in
    let z : count_of b - 0 ≡ count_of b = omega arith in
    let e : t ≡ side_of coded u = et ∙ rw z in
    let fits : rank u < 2 ^ 64 = omega (
      arith,
      root-rank (blocks_of b),
      length-blocks b 0 (count_of b),
      few b good,
    ) in
    let s : to_side (side_of coded u) ≡ side_of (sides sha256) u = (code_side u fits).side_is in
    let f = full_side u (tree_full head (row (blocks_of b))) in
    let l : (side_of coded u).label ≡ (side_of (sides sha256) u).label = rw f at (ap (λ (y : Side). y.label) s) in
    let m : ◌≡◌ {A = Metadata} (record { count = t.rank; label = t.label })
    (record { count = (side_of (sides sha256) u).rank; label = (side_of (sides sha256) u).label }) =
    rw (e, ap (λ (y : Side). y.rank) s, l) in
    record { verdict = rw good; metadata = rw good m }
