pub mod Tree
pub mod Machine
pub mod Definition
pub mod Memory
