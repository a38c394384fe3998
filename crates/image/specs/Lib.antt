pub mod Positions
pub mod LongImages
