pub mod General
pub mod Tank
pub mod ByHistory
pub mod Whole
pub mod Ended
