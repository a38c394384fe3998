pub mod Slots
pub mod Ancestors
pub mod Values
pub mod Paths
