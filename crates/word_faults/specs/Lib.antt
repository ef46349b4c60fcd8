pub mod Seen
pub mod Fault
