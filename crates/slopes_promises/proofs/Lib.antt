pub mod Table
pub mod Operation
pub mod Promises
