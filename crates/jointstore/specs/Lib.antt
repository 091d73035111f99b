pub mod Answers
pub mod Pledges
pub mod Passes
