pub mod Plain
pub mod Pledges
pub mod Shown
