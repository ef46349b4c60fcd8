pub mod WorkedViews
pub mod WorkedRecords
pub mod WorkedLosses
pub mod WorkedFalling
