pub mod Messages
pub mod Explaining
