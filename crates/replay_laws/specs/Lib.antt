pub mod rolling
pub mod pages
pub mod forks
