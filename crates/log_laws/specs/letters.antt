pub mod Numbered
pub mod ReadsFrom
