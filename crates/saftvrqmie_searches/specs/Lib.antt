pub mod Searches
pub mod Diameter
pub mod Steps
