pub mod Diameter
pub mod Answer
pub mod Staged
