pub mod Meaning
pub mod Ends
pub mod Determined
