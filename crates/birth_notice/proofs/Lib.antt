pub mod BirthLaws
mod Examples
pub mod JoinedLaws
pub mod LowestLaws
pub mod WalkLaws
