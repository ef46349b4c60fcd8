pub mod CaughtLimits
pub mod RecordCost
