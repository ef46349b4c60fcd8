pub mod Tells
pub mod ReadCounts
pub mod Sent
pub mod Exiting
pub mod Mailing
pub mod Beside
pub mod Booted
pub mod Children
