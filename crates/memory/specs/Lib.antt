pub mod Wiped
pub mod Views
