pub mod Telling
pub mod Sending
pub mod Exits
pub mod Letters
pub mod Arrivals
pub mod Starting
pub mod Families
