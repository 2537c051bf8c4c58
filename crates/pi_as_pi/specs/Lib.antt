pub mod Machin
pub mod Statement
