pub mod Constants
pub mod Enclosure
pub mod Exact
pub mod Ends
pub mod Enclosed
