pub mod MailNumbers
pub mod SavedNumbers
pub mod SameRead
pub mod StepReads
pub mod ReplayReads
pub mod LogReads
pub mod RollingReads
pub mod SyncReads
mod WorkedReads
