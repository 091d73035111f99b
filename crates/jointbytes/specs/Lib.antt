pub mod Layout
pub mod Positions
pub mod Spelling
pub mod Reading
pub mod Form
pub mod Proper
pub mod Paths
pub mod Working
