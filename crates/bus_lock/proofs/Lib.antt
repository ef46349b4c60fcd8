pub mod Lists
pub mod Views
pub mod Turns
pub mod Loads
pub mod Sleeps
pub mod Takes
pub mod Raises
pub mod Gives
pub mod Opens
pub mod Splits
pub mod Joins
pub mod Closes
pub mod Fresh
mod Examples
