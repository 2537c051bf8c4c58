pub mod Fields
pub mod Card
