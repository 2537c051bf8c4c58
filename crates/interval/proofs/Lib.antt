pub mod Points
pub mod Encloses
pub mod Near
pub mod Bounded
pub mod Absorbed
pub mod Example
