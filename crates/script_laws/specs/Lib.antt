pub mod Crashes
pub mod Off
pub mod Added
pub mod Servers
