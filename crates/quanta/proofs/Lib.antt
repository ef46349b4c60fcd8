pub mod Silence
mod RunningOn
pub mod Ending
pub mod Within
