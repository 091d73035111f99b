pub mod ReadingLaws
pub mod Walks
pub mod FormLaws
pub mod WrittenBack
pub mod ReadBack
pub mod WriteLaws
