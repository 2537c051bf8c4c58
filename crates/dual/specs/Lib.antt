pub mod Dual
pub mod Value
