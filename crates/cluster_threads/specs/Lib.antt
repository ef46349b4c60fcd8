pub mod Steps
pub mod Seated
pub mod Threads
