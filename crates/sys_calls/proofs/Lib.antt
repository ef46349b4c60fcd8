mod Calling
pub mod Running
pub mod RunLemma
mod Shutting
pub mod TakeLaws
pub mod Untaken
mod Waiting
mod Wanting
pub mod Counting
mod ReadNumbers
pub mod Leaving
pub mod Taking
pub mod Clean
pub mod ForkLaws
pub mod Weighing
pub mod Bearing
pub mod Ahead
mod Passing
mod Ending
