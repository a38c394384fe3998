pub mod Laws
pub mod Lookup
pub mod NodeNumbers
pub mod Nodes
pub mod Numbers
pub mod Unifying
