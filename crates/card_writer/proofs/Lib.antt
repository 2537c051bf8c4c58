pub mod Bytes
pub mod Writing
pub mod Stored
