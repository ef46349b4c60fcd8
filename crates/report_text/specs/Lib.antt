pub mod Report
pub mod RunReport
pub mod Good
pub mod Outcome
pub mod Load
