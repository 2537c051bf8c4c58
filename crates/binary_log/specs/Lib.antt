pub mod Tables
pub mod BinaryLog
