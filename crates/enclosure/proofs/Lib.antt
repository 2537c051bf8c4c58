pub mod Constants
pub mod Entries
pub mod Relations
pub mod TwoEnds
