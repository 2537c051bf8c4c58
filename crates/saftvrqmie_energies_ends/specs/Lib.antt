pub mod Operation
pub mod Encloses
