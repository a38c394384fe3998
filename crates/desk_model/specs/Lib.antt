pub mod Lines
pub mod Desk
