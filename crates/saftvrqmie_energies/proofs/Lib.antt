pub mod Lists
pub mod Parts
pub mod Relation
pub mod Ways
