pub mod Layout
pub mod Place
