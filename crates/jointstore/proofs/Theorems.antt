-- The store's joint proof on the image of a row within the limits, with any spare bytes after it: it is made of document
-- 01's paths to the positions (`joint_row`), and prove writes it (`prove_row`). The proofs of a sound image are proper
-- ones (`raws_proper`), so a joint proof of them is spelled out again as them.
-- Assumes nothing.
use Rattle.std.specs.Prelude.{Ok}
use Prim.Native.Nat.{ℕ, ◌+◌, ◌≤◌}
use mathlib.Core.Path.{◌≡◌, refl, ap, ◌∙◌}
use mathlib.Core.Bool.{true, ◌&&◌}
use mathlib.Core.List.{List, [], ◌∷◌, ◌++◌, map}
use lib.Dec.{leb}
use lib.ListN.{length}
use borrow.Author.Tests.{le-leb, le-ltb, leb-true}
use Rattle.octets.specs.Runs.{patch}
use Rattle.skiplist.specs.Blocks.{Block, WithinLimits, way_to}
use Rattle.skiplist.proofs.Cases.{both}
use Rattle.archive.specs.Form.{image_of}
use Rattle.archive.specs.Reading.{count_of, sound}
use Rattle.archive.proofs.ImageLaws.{image-count, image_read, image-sound}
use Rattle.proofbytes.specs.Layout.{most_entries}
use Rattle.jointbytes.specs.Positions.{is_set, within}
use Rattle.jointbytes.specs.Paths.{joint_for, AllShort}
use Rattle.jointbytes.specs.Proper.{AllProper}
use Rattle.store.specs.declared.Proved.{Proved}
use Rattle.store.specs.Answers.{path_at, entries_at}
use Rattle.jointstore.specs.Answers.{raw_at, joint_at, all_shallow, joint_verdict, joint_of, buffer_after}
use Rattle.jointstore.specs.Pledges.{Proves}
use Rattle.jointstore.proofs.PieceLaws.{raw-proper}

-- the proofs of a sound image are proper
pub raws_proper : (b : List ℕ) → sound b ≡ true → (ps : List ℕ) → within (count_of b) ps ≡ true
    → all_shallow b ps ≡ true → AllProper (map (raw_at b) ps)
unfolding within all_shallow
raws_proper b good [] w d = tt
raws_proper b good (p ∷ ps) w d =
    let here = both (leb 1 p && leb p (count_of b)) (within (count_of b) ps) w in
    let low = both (leb (entries_at b p) most_entries) (all_shallow b ps) d in (
      raw-proper b good p (leb-true p (count_of b) (both (leb 1 p) (leb p (count_of b)) here.0).1)
          (leb-true (entries_at b p) most_entries low.0),
      raws_proper b good ps here.1 low.1,
    )

module _ (bs : List Block) (w : WithinLimits bs) (s : List ℕ) where
  pub joint_row : (ps : List ℕ) → joint_at (image_of bs ++ s) ps ≡ joint_for ps bs
  unfolding joint_at path_at
  joint_row ps = ap (λ (x : List Block). joint_for ps x) (image_read bs w s)

  pub short_shallow : (ps : List ℕ) → AllShort ps bs → all_shallow (image_of bs ++ s) ps ≡ true
  unfolding all_shallow path_at
  short_shallow [] k = refl
  short_shallow (p ∷ ps) k =
      rw (image_read bs w s, le-leb (length (way_to p bs).entries) most_entries k.0, short_shallow ps k.1)

  -- PROVE writes the joint proof of document 01's paths
  pub prove_row : (ps lent : List ℕ) (at : ℕ) (r : Proved) (after : List ℕ) → is_set ps ≡ true
      → within (length bs) ps ≡ true → AllShort ps bs → at + length (joint_for ps bs) ≤ length lent
      → Proves (image_of bs ++ s) ps lent at r after
      → (r.verdict ≡ Ok tt) × (r.length ≡ length (joint_for ps bs))
      × (after ≡ patch lent at (joint_for ps bs))
  unfolding joint_of joint_verdict buffer_after
  prove_row ps lent at r after set inside short fits c =
      let b = image_of bs ++ s in
      let v : joint_verdict b ps (length lent) at ≡ Ok tt =
      rw (
        image-sound bs w s,
        set,
        image-count bs w s,
        inside,
        short_shallow ps short,
        joint_row ps,
        le-ltb (length lent) (at + length (joint_for ps bs)) fits,
      ) in
      (c.verdict ∙ v, c.bytes ∙ rw (v, joint_row ps), c.buffer ∙ rw (v, joint_row ps))
