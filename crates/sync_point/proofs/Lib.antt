mod Examples
pub mod Marked
pub mod Cuts
pub mod WhichMarked
pub mod PostLaws
pub mod PageLaws
pub mod WholeLaws
