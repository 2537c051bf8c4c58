pub mod Parts
pub mod Pair
pub mod Steps
