pub mod SlotLaws
pub mod RunLaws
pub mod PlanLaws
mod EntryLaws
pub mod TailLaws
pub mod TurnLaws
pub mod ProofLaws
mod CheckLaws
pub mod ProveLaws
pub mod ApplyLaws
pub mod Unique
pub mod Theorems
