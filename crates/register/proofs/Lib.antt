pub mod Equality
pub mod Outcomes
pub mod Places
pub mod Walks
pub mod Texts
