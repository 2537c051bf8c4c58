pub mod Constants
pub mod Close
pub mod Fractions
pub mod BracketEnds
