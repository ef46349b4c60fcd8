pub mod Filters
pub mod OtherEntries
pub mod NewBackups
pub mod NewBirth
pub mod FamilyKept
pub mod FirstChild
pub mod UnsyncedChild
mod WorkedBirths
