pub mod Tags
pub mod Heights
pub mod CodeSides
