pub mod Answers
pub mod Pledge
pub mod Standing
pub mod Kept
pub mod Found
