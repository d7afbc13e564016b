pub mod Sparse
pub mod Cases
