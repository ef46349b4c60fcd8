pub mod Below
pub mod Executing
pub mod Parts
pub mod Stepping
