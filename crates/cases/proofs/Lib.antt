pub mod Tests
pub mod Bodied
pub mod Minimal
pub mod Rules
pub mod Whole
pub mod Worked
