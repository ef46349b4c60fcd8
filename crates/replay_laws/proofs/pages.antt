pub mod PageCounts
pub mod NotExited
pub mod MovedStated
pub mod RecordPages
pub mod Records
pub mod Begins
pub mod Follows
pub mod PagesCame
pub mod GoesOn
pub mod Asks
pub mod KeptCame
pub mod FetchesWait
mod WorkedWaits
