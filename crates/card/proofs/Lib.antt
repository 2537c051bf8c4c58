pub mod Fields
pub mod Reading
pub mod Whole
pub mod Good
