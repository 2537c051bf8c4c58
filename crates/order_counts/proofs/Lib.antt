pub mod Walked
pub mod Tally
pub mod Laws
pub mod Rows
pub mod Ticked
