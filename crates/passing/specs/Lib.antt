pub mod Clash
pub mod Passing
