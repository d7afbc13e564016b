pub mod Clauses
pub mod Stages
pub mod Verdicts
pub mod Tables
pub mod Grounds
pub mod Theorems
pub mod Entries
