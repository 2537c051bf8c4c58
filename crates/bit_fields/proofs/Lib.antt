pub mod Digits
pub mod Bytes
pub mod Written
