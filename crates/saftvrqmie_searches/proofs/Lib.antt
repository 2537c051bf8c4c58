pub mod Loops
pub mod Nodes
pub mod Relation
pub mod Slopes
