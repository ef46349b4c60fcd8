pub mod Posts
pub mod Owed
pub mod LostBy
