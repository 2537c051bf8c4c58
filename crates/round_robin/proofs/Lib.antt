pub mod Seek
pub mod Bound
