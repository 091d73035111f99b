-- THE DEMANDS, with the names to quote them by; what each says stands in the module of `specs/` that is named like it.

-- Demand 1: a refusal hands back what it was given, changes no lent byte, and has one of document 01's numbers.
pub use Rattle.demands.proofs.FirstDemand.{first_demand}
-- Demand 2: one run of all the calls, and every refusal where document 01 puts it.
pub use Rattle.demands.proofs.SecondDemand.{second_demand}
pub use Rattle.demands.proofs.Placed.{all_placed}
-- Demand 3: what the gateway accepts is right, or two messages clash; 10 comes only with a clash.
pub use Rattle.demands.proofs.ThirdDemand.{third_demand}
-- Demands 2 and 3 over the tags of ask 1: a block that matches what the gateway reports is the one that stands there.
pub use Rattle.demands.proofs.TaggedBlocks.{tagged_blocks}
-- Ask 3: the joint proof, its spelling out, and what the store and the gateway make of it.
pub use Rattle.demands.proofs.MorningCheck.{morning_check}
-- Ask 4: a block that comes again, which store and gateway refuse alike.
pub use Rattle.demands.proofs.SentTwice.{sent_twice}
-- Ask 5: the late filer keeps the archive in time order, and takes the place that the store finds.
pub use Rattle.demands.proofs.LateFiler.{late_filer}
-- P1 to P10, with any tags.
pub use Rattle.demands.proofs.RowOfFive.{row_of_five}
-- Two outcomes that satisfy a pledge are equal.
pub use Rattle.demands.proofs.Uniqueness.{uniqueness}
