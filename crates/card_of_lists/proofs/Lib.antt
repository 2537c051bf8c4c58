pub mod Values
pub mod Written
