-- Demand 3 over entries and stops, in document 01's words: an accepted proof is document 01's way to the position, or
-- there is a clash; so each command answers what it answers on honest proofs.
use Prim.Native.Nat.{ℕ, ◌-◌}
use mathlib.Core.Path.{◌≡◌, refl, ap, ap₂, sym, ◌∙◌}
use mathlib.Core.Logic.{◌⊎◌, inr}
use mathlib.Core.Option.{some}
use mathlib.Core.List.{List, ◌++◌}
use lib.ListN.{length}
use Rattle.skiplist.specs.Entry.{Place}
use Rattle.skiplist.specs.Label.{Side, labelled}
use Rattle.skiplist.specs.Messages.{tree_messages, proof_messages}
use Rattle.skiplist.specs.Clash.{Clash}
use Rattle.skiplist.specs.Check.{Accepted}
use Rattle.skiplist.specs.Limits.{most_height, digest_bytes}
use Rattle.skiplist.specs.Blocks.{Block, head, row, root, way_to, metadata_of, Kept, Sent, AllSound}
use Rattle.skiplist.specs.Blocks.{WithinLimits, tag_at}
use Rattle.skiplist.specs.Commands.{Command, read, replace, insert, delete, InRange, edited, spot, first_at}
use Rattle.skiplist.specs.Commands.{reported, predicted, Trusted}
use Rattle.skiplist.proofs.ClashLaws.{◌>>=◌, clash-within, within_left, within-right}
use Rattle.skiplist.proofs.Master.{accepted-checked, master}
use Rattle.skiplist.proofs.BlockLaws.{settles, heavy, archive}
use Rattle.skiplist.proofs.WayLaws.{way-walk}
use Rattle.skiplist.proofs.Predictions.{predicted-way, reported-way}

module _ (H : List ℕ → List ℕ) (H32 : (m : List ℕ) → length (H m) ≡ digest_bytes) where
  pub only_way : (p : ℕ) (bs : List Block) (z : Place Side) → WithinLimits bs
      → Accepted H Sent most_height p (metadata_of H bs) z
      → Clash H (proof_messages H z) (tree_messages H (root bs)) ⊎ (z ≡ labelled H (way_to p bs))
  only_way p bs z l k = do
    e ← master H H32 Sent Kept settles heavy most_height p head (row bs) z (archive bs l)
        (accepted-checked H Sent most_height p (metadata_of H bs) z k)
    inr (e ∙ ap (labelled H) (sym (way-walk p bs l.sound)))

  -- what a command answers on the ways to its positions
  answered : (k : Command) (bs : List Block) → AllSound bs → InRange k (length bs) → (z w : Place Side)
      → z ≡ labelled H (way_to (first_at k) bs) → w ≡ labelled H (way_to (spot k) bs)
      → (predicted H k (metadata_of H bs) z w ≡ some (metadata_of H (edited k bs))) × (reported k z w ≡ tag_at (spot k) bs)
  answered k bs s r z w e f = (
    ap₂ (predicted H k (metadata_of H bs)) e f ∙ predicted-way H bs s k r,
    ap₂ (reported k) e f
        ∙ reported-way H bs s k r,
  )

  pub trusted : Trusted H
  trusted (read p) bs z w l r k = do
    e ← only_way p bs z l k
    inr (answered (read p) bs l.sound r z (labelled H (way_to p bs)) e refl)
  trusted (replace p t) bs z w l r k = do
    e ← only_way p bs z l k
    inr (answered (replace p t) bs l.sound r z (labelled H (way_to p bs)) e refl)
  trusted (insert p b) bs z w l r k = do
    e ← only_way p bs z l k
    inr (answered (insert p b) bs l.sound r z (labelled H (way_to p bs)) e refl)
  trusted (delete p) bs z w l r k = do
    e ← clash-within all (within_left (proof_messages H z) (proof_messages H w) all (λ m i. i))
        (only_way (p - 1) bs z l k.0)
    f ← clash-within all (within-right (proof_messages H z) (proof_messages H w) all (λ m i. i)) (only_way p bs w l k.1)
    inr (answered (delete p) bs l.sound r z w e f)
    where
      all : List (List ℕ)
      all = proof_messages H z ++ proof_messages H w
