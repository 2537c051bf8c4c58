pub mod Alone
pub mod Lines
pub mod Orders
pub mod Parts
pub mod Prefactor
pub mod Relation
pub mod Slopes
pub mod Values
