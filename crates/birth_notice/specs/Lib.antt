pub mod Family
pub mod Joined
