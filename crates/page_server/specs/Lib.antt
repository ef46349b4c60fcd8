pub mod Account
pub mod Disk
pub mod Fetches
pub mod Places
pub mod Sheets
pub mod Slots
