pub mod Nodes
pub mod Pendings
pub mod Reports
pub mod Shapes
