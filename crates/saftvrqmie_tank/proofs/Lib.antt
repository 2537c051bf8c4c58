pub mod Ways
pub mod Runs
