pub mod Combine
pub mod Answer
pub mod Places
pub mod Sums
pub mod Tables
pub mod Sheets
