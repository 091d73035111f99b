-- THE MASTER THEOREM: entries and a stop that pass the check for a position against a row's metadata are the row's
-- own path to that position, or there is a clash; and the row's own path passes. It speaks of no command: demand 3 of
-- each is to rewrite by it and to apply the law on honest paths. What settles a leaf's own from its third is a
-- hypothesis.
use Prim.Native.Nat.{ℕ, ◌≤◌, ◌<◌}
use mathlib.Core.Path.{◌≡◌, refl, ap, sym, ◌∙◌, subst}
use mathlib.Core.Logic.{◌⊎◌, inr}
use mathlib.Core.Bool.{Bool, true, false}
use mathlib.Core.List.{List, [], ◌∷◌, ◌++◌, map}
use lib.ListN.{length}
use Rattle.skiplist.specs.Row.{Item, Column, last_of}
use Rattle.skiplist.specs.Tree.{Tree, tree}
use Rattle.skiplist.specs.Sides.{trees, side_of}
use Rattle.skiplist.specs.Entry.{Entry, down, right, pass, Place}
use Rattle.skiplist.specs.Find.{walk, Holds}
use Rattle.skiplist.specs.Path.{stop_side, entries_to, place}
use Rattle.skiplist.specs.Leaves.{Fits}
use Rattle.skiplist.specs.Label.{Side, sides, metadata, labelled, rank_bound}
use Rattle.skiplist.specs.Messages.{tree_messages, proof_messages}
use Rattle.skiplist.specs.Clash.{Clash}
use Rattle.skiplist.specs.Limits.{digest_bytes}
use Rattle.skiplist.specs.Check.{Archive, Accepted, Checked}
use Rattle.skiplist.proofs.Runs.{at_most_left, at_most-right}
use Rattle.skiplist.proofs.PathLaws.{place-whole, path_falls}
use Rattle.skiplist.proofs.RankLaws.{Weighs, tree-rank, side-weight, rank_proved}
use Rattle.skiplist.proofs.GoodTree.{Good, tree-good, good-fits}
use Rattle.skiplist.proofs.FindLaws.{walk_path, proves-holds, holds-proves}
use Rattle.skiplist.proofs.MapLaws.{falls-map}
use Rattle.skiplist.proofs.SideLaws.{entry_of, holds-side, side-holds}
use Rattle.skiplist.proofs.HonestLaws.{honest-whole}
use Rattle.skiplist.proofs.ClashLaws.{◌>>=◌}
use Rattle.skiplist.proofs.Genuine.{genuine}

module _ (H : List ℕ → List ℕ) where
  pub sides_weigh : Weighs (sides H)
  sides_weigh = record { of_none = refl; of_leaf = λ c r. refl; of_node = λ l a b. refl }

  -- DOCUMENT 01'S CHECK AND THE CHECK BY WEIGHTS
  module _ (Sent : Bool → Item → Type 0) (top p : ℕ) (m : Side) (z : Place Side) where
    pub accepted-checked : Accepted H Sent top p m z → Checked H Sent top p m z
    accepted-checked a = record {
      form = a.form;
      holds = proves-holds (sides H) p z a.proves;
      root = λ i. record { rank = (sym (rank_proved (sides H) sides_weigh z) ∙ a.count) i; label = a.root i };
    }

    pub checked-accepted : z.item.own ≤ 1 → Checked H Sent top p m z → Accepted H Sent top p m z
    checked-accepted o a = record {
      form = a.form;
      proves = holds-proves (sides H) p z o a.holds;
      count = rank_proved (sides H) sides_weigh z ∙ ap (λ (s : Side). s.rank) a.root;
      root = ap (λ (s : Side). s.label) a.root;
    }

  -- THE HONEST PATH PASSES
  module _ (Sent Kept : Bool → Item → Type 0) (sends : (f : Bool) (c : Item) → Kept f c → Sent f c) where
    fits-sent : (f : Bool) (q : List (Entry Tree)) (c : Item) → Fits Kept f q c
        → Fits Sent f (map (entry_of (sides H)) q) c
    fits-sent f [] c k = sends f c k
    fits-sent f (down l s ∷ q) c k = fits-sent f q c k
    fits-sent f (right l s ∷ q) c k = fits-sent false q c k
    fits-sent f (pass d ∷ q) c k = (sends f d k.0, fits-sent false q c k.1)

    pub honest_checked : (top p : ℕ) (c : Item) (A B : List Column) → Archive Kept top c (A ++ B)
        → Holds trees p (place c A B)
        → Checked H Sent top p (metadata H c (A ++ B)) (labelled H (place c A B))
    honest_checked top p c A B a h = record {
      form = record {
        leaves = fits-sent true (entries_to c A B) (last_of c A)
            (good-fits Kept true (entries_to c A B) (last_of c A) (stop_side trees B)
            (rw (place-whole c A B) (tree-good Kept true c (A ++ B) a.first a.blocks)));
        levels = falls-map (side_of (sides H)) top (entries_to c A B)
            (path_falls top c A B (at_most_left top A B a.low) (at_most-right top A B a.low));
      };
      holds = holds-side (sides H) sides_weigh p (place c A B) h;
      root = honest-whole (sides H) c A B;
    }

-- NOTHING ELSE DOES
module _ (H : List ℕ → List ℕ) (H32 : (m : List ℕ) → length (H m) ≡ digest_bytes) (Sent Kept : Bool → Item → Type 0)
    (settles : (f : Bool) (c d : Item) → Sent f c → Kept f d → c.third ≡ d.third → c ≡ d)
    (heavy : (c : Item) → Kept false c → 1 ≤ c.own)
    (top : ℕ) where
  pub master : (p : ℕ) (c : Item) (R : List Column) (z : Place Side) → Archive Kept top c R
      → Checked H Sent top p (metadata H c R) z
      → Clash H (proof_messages H z) (tree_messages H (tree c R)) ⊎ (z ≡ labelled H (walk p (tree c R)))
  master p c R z a k = do
    h ← genuine H H32 Sent Kept settles (proof_messages H z) (tree_messages H (tree c R)) z.item z.side true top
        z.entries (tree c R)
        k.form.leaves k.form.levels good (rw k.root light) light (λ m i. i) (λ m i. i)
        (ap (λ (s : Side). s.label) k.root)
    let path : Place Tree = record { entries = h.path; item = z.item; side = h.below }
    let is : labelled H path ≡ z = λ i. record { entries = h.entries i; item = z.item; side = h.stop i }
    let holds : Holds trees p path = side-holds (sides H) (sides_weigh H) p path
        (subst (Holds (sides H) p) (sym is) k.holds)
    let found : walk p (tree c R) ≡ path = ap (walk p) (sym h.makes)
        ∙ walk_path Kept heavy p path (rw h.makes good) holds
    inr (sym is ∙ ap (labelled H) (sym found))
    where
      good : Good Kept true (tree c R)
      good = tree-good Kept true c R a.first a.blocks

      light : (metadata H c R).rank < rank_bound
      light = rw (side-weight (sides H) (sides_weigh H) (tree c R), tree-rank c R) a.few
