pub mod Given
pub mod Ways
