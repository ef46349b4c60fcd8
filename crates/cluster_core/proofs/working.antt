pub mod WorkedOn
pub mod KeptLimits
pub mod Working
pub mod Resting
pub mod Heads
pub mod Turning
pub mod Lightening
