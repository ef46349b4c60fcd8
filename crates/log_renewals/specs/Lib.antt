pub mod Returns
pub mod Named
pub mod Numbers
pub mod Moved
pub mod Standing
pub mod Fresh
