pub mod Ranges
pub mod Fields
pub mod Building
pub mod Equalities
pub mod Placing
pub mod Placed
