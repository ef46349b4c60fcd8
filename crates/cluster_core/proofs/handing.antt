pub mod Apart
pub mod Waits
pub mod Quiet
pub mod Posts
pub mod Queued
pub mod OwnStanding
