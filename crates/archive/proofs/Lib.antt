pub mod SoundLaws
pub mod RecordLaws
pub mod ImageLaws
pub mod EditLaws
