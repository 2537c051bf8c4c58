pub mod Base
pub mod Constants
pub mod Laws
pub mod Way
