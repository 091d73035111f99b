pub mod PositionLaws
pub mod CommonLaws
pub mod RecordLaws
pub mod Respelled
pub mod Rejoined
pub mod PieceLaws
pub mod StandLaws
pub mod WriteLaws
