pub mod Properties
pub mod Slopes
