pub mod Pids
pub mod Alone
pub mod Waiting
pub mod OwedNext
pub mod Awaited
pub mod Joined
