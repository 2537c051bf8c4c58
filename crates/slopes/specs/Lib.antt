pub mod Mixed
pub mod Rules
pub mod Staged
