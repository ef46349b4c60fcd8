pub mod Keeps
pub mod Booting
pub mod Noting
pub mod Answering
