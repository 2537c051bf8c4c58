pub mod State
pub mod Dispersion
