pub mod Multiples
pub mod Nearest
pub mod Parts
pub mod Same
pub mod Held
pub mod Left
pub mod Exact
