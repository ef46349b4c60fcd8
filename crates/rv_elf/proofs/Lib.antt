mod Examples
pub mod Lowest
pub mod Sharing
pub mod Filling
pub mod Imaging
