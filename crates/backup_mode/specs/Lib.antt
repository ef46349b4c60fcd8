pub mod Posts
pub mod Renewal
