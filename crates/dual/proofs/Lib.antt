pub mod Power
pub mod Relation
pub mod Parts
