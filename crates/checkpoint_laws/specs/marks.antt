pub mod Beside
pub mod Received
pub mod Rolled
pub mod Sent
pub mod Stepped
