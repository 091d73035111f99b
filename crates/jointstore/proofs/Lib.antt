pub mod SharingLaws
pub mod PieceLaws
pub mod PartLaws
mod CountLaws
mod PositionLaws
pub mod JointLaws
mod PutLaws
mod AnswerLaws
pub mod Unique
pub mod Theorems
