pub mod OwnCounts
pub mod StepLimits
pub mod SendingLimits
pub mod ForkLimits
pub mod SyncLimits
pub mod StayingLimits
pub mod RestLimits
mod WorkedLimits
