pub mod Interval
pub mod Usual
