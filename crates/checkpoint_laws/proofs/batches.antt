pub mod PageSent
pub mod WholeAccount
pub mod RestStands
pub mod RestMarks
pub mod MarkedPages
pub mod BatchBegins
pub mod LettersRead
pub mod ChildrenStay
pub mod TakenLetters
pub mod EntryBetween
pub mod BatchAndOthers
pub mod HomeStays
pub mod OtherSenders
pub mod LaterPages
pub mod QueuedBatch
mod WorkedBatch
