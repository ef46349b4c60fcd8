mod Examples
mod FrontLaws
mod PlaceLaws
pub mod QueueLaws
pub mod ReadingLaws
