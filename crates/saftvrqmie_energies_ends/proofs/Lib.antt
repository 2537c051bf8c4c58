pub mod Encloses
pub mod Ways
