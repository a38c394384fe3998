pub mod Near
pub mod Answers
