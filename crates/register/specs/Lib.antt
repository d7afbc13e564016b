pub mod Standing
pub mod Registers
pub mod Tallies
pub mod Contexts
