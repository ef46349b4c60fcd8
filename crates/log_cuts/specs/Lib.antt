pub mod Ahead
pub mod SentPages
pub mod Numbers
pub mod Start
pub mod Memory
pub mod Pages
pub mod Syncs
