pub mod Tame
pub mod Raised
pub mod Same
pub mod Derivatives
