pub mod Saving
pub mod Climbing
pub mod Parting
pub mod Checking
pub mod Gateway
pub mod Hashing
pub mod Working
pub mod Demand
