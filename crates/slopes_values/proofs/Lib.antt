pub mod OneSided
pub mod Full
pub mod Fewer
pub mod FewerOne
pub mod Searches
pub mod Values
pub mod Energies
