pub mod SpellLaws
pub mod AgainLaws
pub mod LoopLaws
pub mod Answers
pub mod JointDemands
pub mod JointHonest
