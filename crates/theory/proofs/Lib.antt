pub mod Definition
pub mod Kit
pub mod Machine
pub mod Memory
pub mod Theorems
pub mod Tree
