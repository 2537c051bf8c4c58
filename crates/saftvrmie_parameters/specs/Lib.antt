pub mod Combine
pub mod Parameters
