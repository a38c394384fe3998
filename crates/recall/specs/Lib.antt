pub mod Recall
pub mod Places
