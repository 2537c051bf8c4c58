pub mod State
pub mod HardSphere
pub mod NonAdditive
