pub mod Root
pub mod Reciprocals
pub mod Inverse
