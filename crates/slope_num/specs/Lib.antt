pub mod Value
pub mod Laws
