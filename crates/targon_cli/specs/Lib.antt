pub mod Answer
pub mod Commands
pub mod Explained
pub mod Input
pub mod Noted
pub mod Reply
pub mod Sections
