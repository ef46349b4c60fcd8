pub mod Found
pub mod Taking
mod Room
mod Booting
