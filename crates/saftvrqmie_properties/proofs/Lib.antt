pub mod Ways
pub mod Relation
pub mod Slopes
