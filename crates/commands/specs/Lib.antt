pub mod Admission
pub mod Meaning
pub mod Again
