pub mod Hand
pub mod Live
pub mod Progress
