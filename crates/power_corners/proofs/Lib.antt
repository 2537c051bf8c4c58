pub mod Sheets
pub mod Numbers
pub mod Integral
pub mod Quantum
pub mod Only
pub mod Mie
pub mod Whole
