pub mod Terms
pub mod TableTest
pub mod Additive
pub mod Significand
pub mod Base
