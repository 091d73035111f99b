pub mod Filing
pub mod Working
pub mod Archive
pub mod Demand
