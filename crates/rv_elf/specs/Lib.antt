pub mod Answers
pub mod File
pub mod Loaded
pub mod Placing
pub mod Refusal
pub mod Rules
