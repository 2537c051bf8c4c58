pub mod Constants
pub mod Powers
