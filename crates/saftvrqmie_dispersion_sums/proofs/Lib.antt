pub mod Turns
pub mod Alphas
pub mod Ways
