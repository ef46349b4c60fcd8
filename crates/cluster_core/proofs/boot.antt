pub mod Passing
pub mod Homing
pub mod Booted
pub mod FirstRecords
pub mod ReturnFollows
