pub mod Port
pub mod Promised
