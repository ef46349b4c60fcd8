pub mod Begun
pub mod Waiting
pub mod Pages
pub mod Kept
