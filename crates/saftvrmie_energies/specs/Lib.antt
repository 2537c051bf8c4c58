pub mod Properties
pub mod Dispersion
pub mod Energies
pub mod Reads
pub mod Sums
