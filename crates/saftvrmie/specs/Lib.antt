pub mod Diameters
pub mod Pairs
