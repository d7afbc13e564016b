pub mod Rules
pub mod Readings
pub mod Unique
