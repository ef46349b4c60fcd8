pub mod EntryMarks
pub mod LetterMarks
pub mod BootMarks
pub mod TakenLetter
pub mod SentPages
pub mod StepMarks
pub mod SendingMarks
pub mod SavedCame
pub mod RolledReads
pub mod RolledMarks
pub mod AwaitedPages
pub mod BegunMarks
pub mod ForkMarks
pub mod UnplacedPages
pub mod AllMarked
pub mod BornMarks
mod WorkedMarks
