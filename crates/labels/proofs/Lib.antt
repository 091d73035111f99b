pub mod TagLaws
mod HeightLaws
mod Joins
pub mod CodeLaws
pub mod Unique
