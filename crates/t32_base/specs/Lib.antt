pub mod Account
pub mod Kept
pub mod Registers
pub mod Small
pub mod Streams
