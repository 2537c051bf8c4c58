pub mod Relation
pub mod Shared
pub mod Slope
pub mod Lost
pub mod Staged
