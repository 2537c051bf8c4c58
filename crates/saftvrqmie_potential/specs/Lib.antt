pub mod Potential
pub mod Shared
pub mod Slopes
