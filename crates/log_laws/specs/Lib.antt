pub mod births
pub mod letters
pub mod pages
pub mod records
