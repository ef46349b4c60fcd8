pub mod Ends
pub mod Lives
pub mod Disks
pub mod Gone
pub mod Along
pub mod Progress
pub mod Offers
pub mod Turns
