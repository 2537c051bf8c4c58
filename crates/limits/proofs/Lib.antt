pub mod Range
pub mod Asked
