pub mod Held
pub mod Slots
pub mod Ancestors
pub mod Values
pub mod Arrays
pub mod Paths
