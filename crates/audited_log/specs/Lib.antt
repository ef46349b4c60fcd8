pub mod Common
pub mod Processes
pub mod Walk
pub mod State
pub mod Named
pub mod One
pub mod Answers
pub mod Backups
