-- The theorems, with the names to quote them by. H is any digest of 32 bytes; c is a head's item, A, X and B are runs
-- of columns. What is proved of document 01's row of blocks (`bs`) is proved first of any weights, thirds and limits.

-- 1. The computed tree is document 01's tree, and the only one. Its three cases as equations. The root's rank is the
-- number of blocks.
pub use Rattle.skiplist.proofs.TreeLaws.{tree_is, tree_only, tree-alone, tree-flat, tree-tall}
pub use Rattle.skiplist.proofs.RankLaws.{tree-rank}
pub use Rattle.skiplist.proofs.WayLaws.{root-rank, metadata_count}
-- 2. Document 01's way to p, 0 to n, is the path made from the row. It proves position p and rank n, obeys the rule
-- on levels, and recomputes the root; the gateway's check takes it. Its entries are those that heights say, at most p
-- + min(15, n - p). Where own is 0 and 1, it is the way by weights, and a proof proves a position where it holds it
-- by weights.
pub use Rattle.skiplist.proofs.WayLaws.{way_found, way-proves, way-rank, way-falls, way-whole, way-accepted}
pub use Rattle.skiplist.proofs.WayLaws.{way-length, way_few}
pub use Rattle.skiplist.proofs.PathLaws.{place-whole, path_falls}
pub use Rattle.skiplist.proofs.RankLaws.{place_position, rank_proved}
pub use Rattle.skiplist.proofs.LengthLaws.{right-levels, down-levels, path_length, count_bound}
pub use Rattle.skiplist.proofs.FindLaws.{walk-row, find_is_walk, proves-holds, holds-proves}
-- 3. The path to a place is the merge of its right entries, made from what is before alone, and its down entries,
-- made from what follows alone.
pub use Rattle.skiplist.proofs.MergeLaws.{path_merge, rights_path, downs_path}
-- 4. Replace, Insert, Delete and the removal of a run on honest paths give the rank and label of the edited row
-- labelled afresh, and honest neighbours meet. Every command on the honest proofs of a row of blocks.
pub use Rattle.skiplist.proofs.HonestLaws.{honest-whole, honest-replaced, honest-inserted, honest-parts}
pub use Rattle.skiplist.proofs.HonestLaws.{honest-removed, honest-meets, honest-deleted}
pub use Rattle.skiplist.proofs.Predictions.{predicted-way, reported-way}
-- 5. The master theorem: entries and a stop that pass the check for p against a row's metadata are the way to p, or
-- there is a clash between what recomputing hashed and what labelling hashed. For document 01's row, `only_way`.
pub use Rattle.skiplist.proofs.Master.{master, honest_checked, accepted-checked, checked-accepted}
pub use Rattle.skiplist.proofs.BlockLaws.{settles}
pub use Rattle.skiplist.proofs.Trust.{only_way}
-- 6. Demand 3 over entries and stops: `trusted` proves `Commands.Trusted`.
pub use Rattle.skiplist.proofs.Trust.{trusted}
-- 7. One pass from the right with slots by level gives the root's side, and the slots are the down entries and the
-- stop's right side in front of the columns passed.
pub use Rattle.skiplist.proofs.SlotLaws.{slots-root, slots-open, slots-stop, slots-length}
