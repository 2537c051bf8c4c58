pub mod Lists
pub mod Sums
pub mod Ways
