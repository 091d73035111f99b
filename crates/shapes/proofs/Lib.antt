mod CountLaws
mod PassLaws
mod RowPass
pub mod ShapeLaws
