pub mod Cards
pub mod Squares
