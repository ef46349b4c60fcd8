pub mod Decides
pub mod Front
pub mod Losses
pub mod Answers
pub mod Fetches
