pub mod Reached
pub mod Traps
pub mod Note
