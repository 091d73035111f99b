pub mod Shape
pub mod Counters
