pub mod Counted
pub mod Resting
