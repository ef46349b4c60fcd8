pub mod AccountLaws
mod Examples
mod FetchLaws
pub mod Marks
pub mod Owners
pub mod PagerLaws
pub mod Putting
pub mod SheetLaws
