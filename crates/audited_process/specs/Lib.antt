pub mod Concerns
pub mod Begun
pub mod Pages
pub mod SinceMoved
pub mod Audited
pub mod Leading
pub mod Answering
pub mod Lines
