pub mod Bounded
pub mod ClausePaths
pub mod Maps
pub mod Pigeon
