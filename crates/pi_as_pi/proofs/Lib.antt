pub mod Nested
pub mod Tight
pub mod Whole
