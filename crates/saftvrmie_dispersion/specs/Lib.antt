pub mod Sutherland
pub mod Terms
pub mod Chain
pub mod Answer
pub mod Slope
pub mod Staged
pub mod Shared
