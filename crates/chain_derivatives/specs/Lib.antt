pub mod Polynomial
pub mod Quotient
pub mod Chain
