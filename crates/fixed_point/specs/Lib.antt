pub mod Horner
pub mod Quotient
pub mod Pack
pub mod Fields
