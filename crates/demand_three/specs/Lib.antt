pub mod TwoEnded
pub mod Demand
pub mod ByHistory
