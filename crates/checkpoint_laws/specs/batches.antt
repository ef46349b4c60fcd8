pub mod Underway
pub mod Between
