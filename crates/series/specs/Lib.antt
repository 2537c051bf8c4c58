pub mod Sums
pub mod Exact
pub mod Distance
