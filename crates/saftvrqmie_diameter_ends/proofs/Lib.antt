pub mod Encloses
pub mod Nodes
