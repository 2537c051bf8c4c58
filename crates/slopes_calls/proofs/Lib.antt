pub mod Ways
pub mod Places
