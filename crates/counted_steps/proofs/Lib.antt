pub mod Marked
pub mod Settling
