pub mod Sets
pub mod Copies
pub mod FromFn
