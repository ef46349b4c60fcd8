pub mod Blind
pub mod Kept
pub mod Since
pub mod Same
pub mod EachKind
pub mod GoesOn
pub mod SameLines
pub mod SaysTheSame
