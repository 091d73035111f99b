pub mod Words
pub mod Constants
pub mod Roots
pub mod Padding
pub mod Hash
pub mod Window
pub mod Answer
