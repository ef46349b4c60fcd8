pub mod Text
pub mod Told
pub mod Guess
pub mod Reading
