pub mod Exists
pub mod Promised
