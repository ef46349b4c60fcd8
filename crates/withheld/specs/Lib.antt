pub mod Losses
pub mod Counts
pub mod Walks
pub mod Worked
