pub mod Joint
pub mod Working
pub mod Demand
