pub mod Refusals
pub mod Numbers
pub mod Memberships
pub mod Letters
pub mod Credentials
pub mod Equality
pub mod Sources
pub mod Notation
