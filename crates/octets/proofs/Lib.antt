pub mod PatchLaws
pub mod PartLaws
pub mod NumberLaws
pub mod RunLaws
pub mod KeepLaws
