pub mod TankEnds
