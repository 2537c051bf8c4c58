pub mod Fields
pub mod Cards
pub mod Moves
pub mod Joined
pub mod Tested
pub mod Values
pub mod Quantum
pub mod Mie
