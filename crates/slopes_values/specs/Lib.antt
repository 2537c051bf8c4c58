pub mod Values
pub mod Energies
