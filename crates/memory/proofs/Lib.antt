pub mod LoopLaws
pub mod FieldBounds
pub mod FreeLaws
