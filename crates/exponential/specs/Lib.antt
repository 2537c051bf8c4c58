pub mod Powers
pub mod Raise
pub mod Exp
pub mod ExpM1
pub mod Tanh
