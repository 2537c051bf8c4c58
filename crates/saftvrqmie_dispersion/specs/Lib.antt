pub mod Alpha
pub mod Perturbation
pub mod Sums
